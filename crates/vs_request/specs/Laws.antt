-- Statements of laws by name, for those who stand on them.
use Rattle.std.specs.Prelude.{◌≡◌, ℕ, List, Result}
use Rattle.vs_request.specs.declared.refusal.RequestRefusal.{RequestRefusal}
use Rattle.vs_request.specs.declared.request.Request.{Request}
use Rattle.vs_request.specs.Requests.{Says}

-- bytes say no two things
abbrev pub SaysOneThing : Type 0
SaysOneThing = (bytes : List ℕ) (r s : Result Request RequestRefusal) → Says bytes r → Says bytes s → r ≡ s
