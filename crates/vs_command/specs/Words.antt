-- The words of the program.
use Rattle.std.specs.Prelude.{◌≡◌, ℕ, List, [], ◌∷◌, codes, map, String}
use Rattle.std.specs.String.{string_bytes}
use Rattle.std.specs.declared.alloc.Global.{Global}

-- the word is `show` alone
abbrev pub AreShowWords : List (String Global) → Type 0
AreShowWords words = map string_bytes words ≡ codes "show" ∷ []

-- the words are `stream` and a folder
abbrev pub AreStreamWords : List (String Global) → List ℕ → Type 0
AreStreamWords words folder = map string_bytes words ≡ codes "stream" ∷ (folder ∷ [])
