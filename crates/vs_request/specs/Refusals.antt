-- What a refusal of a message is to a request.
use Rattle.vs_proto.specs.declared.refusal.ProtoRefusal.{ProtoRefusal}
use Rattle.vs_proto.specs.declared.refusal.ProtoRefusal.TheVariants as protos
use Rattle.vs_request.specs.declared.refusal.RequestRefusal.{RequestRefusal}
use Rattle.vs_request.specs.declared.refusal.RequestRefusal.TheVariants.{Message, Memory}

-- want of memory stays what it is
abbrev pub refusal_of : ProtoRefusal → RequestRefusal
refusal_of protos.Memory = Memory
refusal_of (protos.BadMessage at why) = Message (protos.BadMessage at why)
refusal_of (protos.NotUtf8 at) = Message (protos.NotUtf8 at)
