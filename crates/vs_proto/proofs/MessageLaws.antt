-- Each message is read again as it was spelled: a line for each, with the laws of its kinds of fields.
use Rattle.std.proofs.Common.{Bool, refl}
use Rattle.vs_proto.specs.Shapes.{IsReadAgain}
use Rattle.vs_proto.specs.Tables.{field, field_event, row, row_change, row_event, table_key, shard_gtid, vgtid, keyspace_shard, journal, event, response, rule, filter, flags, request}
use Rattle.vs_proto.proofs.ShapeLaws.{kept, read_again}
use Rattle.vs_proto.proofs.KindLaws.{text_law, bytes_law, texts_law, uint64_law, int64_law, enumeration_law, flag_law, sint64s_law, one_law, many_law}

pub field_again : (strict : Bool) → IsReadAgain (field strict)
unfolding field
field_again strict = read_again (field strict) (kept (text_law strict) refl, (kept enumeration_law refl, tt))

pub field_event_again : (strict : Bool) → IsReadAgain (field_event strict)
unfolding field_event
field_event_again strict = read_again (field_event strict) (kept (text_law strict) refl, (kept (many_law (field strict) (field_again strict)) refl, tt))

pub row_again : (strict : Bool) → IsReadAgain (row strict)
unfolding row
row_again strict = read_again (row strict) (kept sint64s_law refl, (kept bytes_law refl, tt))

pub row_change_again : (strict : Bool) → IsReadAgain (row_change strict)
unfolding row_change
row_change_again strict = read_again (row_change strict) (kept (one_law (row strict) (row_again strict)) refl, (kept (one_law (row strict) (row_again strict)) refl, tt))

pub row_event_again : (strict : Bool) → IsReadAgain (row_event strict)
unfolding row_event
row_event_again strict = read_again (row_event strict) (kept (text_law strict) refl, (kept (many_law (row_change strict) (row_change_again strict)) refl, tt))

pub table_key_again : (strict : Bool) → IsReadAgain (table_key strict)
unfolding table_key
table_key_again strict = read_again (table_key strict) (kept (text_law strict) refl, (kept (one_law (row strict) (row_again strict)) refl, tt))

pub shard_gtid_again : (strict : Bool) → IsReadAgain (shard_gtid strict)
unfolding shard_gtid
shard_gtid_again strict = read_again (shard_gtid strict) (kept (text_law strict) refl, (kept (text_law strict) refl, (kept (text_law strict) refl, (kept (many_law (table_key strict) (table_key_again strict)) refl, tt))))

pub vgtid_again : (strict : Bool) → IsReadAgain (vgtid strict)
unfolding vgtid
vgtid_again strict = read_again (vgtid strict) (kept (many_law (shard_gtid strict) (shard_gtid_again strict)) refl, tt)

pub keyspace_shard_again : (strict : Bool) → IsReadAgain (keyspace_shard strict)
unfolding keyspace_shard
keyspace_shard_again strict = read_again (keyspace_shard strict) (kept (text_law strict) refl, (kept (text_law strict) refl, tt))

pub journal_again : (strict : Bool) → IsReadAgain (journal strict)
unfolding journal
journal_again strict = read_again (journal strict) (kept int64_law refl, (kept enumeration_law refl, (kept (texts_law strict) refl, (kept (text_law strict) refl, (kept (many_law (shard_gtid strict) (shard_gtid_again strict)) refl, (kept (many_law (keyspace_shard strict) (keyspace_shard_again strict)) refl, tt))))))

pub event_again : (strict : Bool) → IsReadAgain (event strict)
unfolding event
event_again strict = read_again (event strict) (kept enumeration_law refl, (kept int64_law refl, (kept (text_law strict) refl, (kept (text_law strict) refl, (kept (one_law (row_event strict) (row_event_again strict)) refl, (kept (one_law (field_event strict) (field_event_again strict)) refl, (kept (one_law (vgtid strict) (vgtid_again strict)) refl, (kept (one_law (journal strict) (journal_again strict)) refl, (kept int64_law refl, (kept (text_law strict) refl, (kept (text_law strict) refl, tt)))))))))))

pub response_again : (strict : Bool) → IsReadAgain (response strict)
unfolding response
response_again strict = read_again (response strict) (kept (many_law (event strict) (event_again strict)) refl, tt)

pub rule_again : (strict : Bool) → IsReadAgain (rule strict)
unfolding rule
rule_again strict = read_again (rule strict) (kept (text_law strict) refl, (kept (text_law strict) refl, tt))

pub filter_again : (strict : Bool) → IsReadAgain (filter strict)
unfolding filter
filter_again strict = read_again (filter strict) (kept (many_law (rule strict) (rule_again strict)) refl, tt)

pub flags_again : (strict : Bool) → IsReadAgain (flags strict)
unfolding flags
flags_again strict = read_again (flags strict) (kept uint64_law refl, (kept uint64_law refl, (kept flag_law refl, (kept flag_law refl, tt))))

pub request_again : (strict : Bool) → IsReadAgain (request strict)
unfolding request
request_again strict = read_again (request strict) (kept (one_law (vgtid strict) (vgtid_again strict)) refl, (kept (one_law (filter strict) (filter_again strict)) refl, (kept (one_law (flags strict) (flags_again strict)) refl, tt)))
