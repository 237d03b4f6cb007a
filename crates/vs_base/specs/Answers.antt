-- Answers that are what is meant but for want of memory.
use Rattle.std.specs.Prelude.{◌≡◌, ◌⊎◌, Result, Err}

-- the answer is what is meant, or it is this want of memory
abbrev pub Unless : {A E : Type 0} → E → Result A E → Result A E → Type 0
Unless memory result meant = (result ≡ Err memory) ⊎ (result ≡ meant)
