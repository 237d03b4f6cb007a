-- Tokens at the front of a text stay what they are when something else stands behind them.
use Rattle.std.proofs.Common.{◌≡◌, ◌∙◌, ◌++◌, ℕ, Bool, true, false, List, [], ◌∷◌, refl, ap, sym, subst, inl, inr, append_assoc, arith}
use Rattle.std.specs.Prelude.{◌⊎◌, Some}
use Rattle.vs_journal.specs.Spellings.{EndsOctal, EndsRun, IsEscape, IsOctal, IsStringByte, IsTokenAt, SpellsBytes, SpellsTokens}
use Rattle.vs_journal.specs.declared.token.Bracket.{Bracket}
use Rattle.vs_journal.specs.declared.token.Bracket.TheVariants.{Curly, Angle}
use Rattle.vs_journal.specs.declared.token.Token.{Token}
use Rattle.vs_journal.specs.declared.token.Token.TheVariants as token

-- ---- strings

octal_same : (text : List ℕ) (value : ℕ) (rest other : List ℕ) → (EndsOctal rest → EndsOctal other) → IsOctal text value rest → IsOctal text value other
octal_same text value rest other e (inl h) = inl (h.0, h.1, h.2, e h.3, h.4)
octal_same text value rest other e (inr (inl h)) = inr (inl (h.0, h.1, h.2, h.3, h.4, e h.5, h.6))
octal_same text value rest other e (inr (inr h)) = inr (inr h)

escape_same : (text : List ℕ) (value : ℕ) (rest other : List ℕ) → (EndsOctal rest → EndsOctal other) → IsEscape text value rest → IsEscape text value other
escape_same text value rest other e (inl h) = inl h
escape_same text value rest other e (inr (inl h)) = inr (inl h)
escape_same text value rest other e (inr (inr h)) = inr (inr (octal_same text value rest other e h))

byte_same : (q : ℕ) (text : List ℕ) (value : ℕ) (rest other : List ℕ) → (EndsOctal rest → EndsOctal other) → IsStringByte q text value rest → IsStringByte q text value other
byte_same q text value rest other e (inl h) = inl h
byte_same q text value rest other e (inr h) = inr (h.0, h.1, escape_same h.0 value rest other e h.2)

ends_octal_behind : (inner tail other : List ℕ) → (EndsOctal tail → EndsOctal other) → EndsOctal (inner ++ tail) → EndsOctal (inner ++ other)
ends_octal_behind [] tail other e h = e h
ends_octal_behind (c ∷ inner) tail other e h = h

abbrev BytesFront : ℕ → List ℕ → List ℕ → List ℕ → Type 0
BytesFront q text bytes tail = (inner : List ℕ) × (text ≡ inner ++ tail) × ((other : List ℕ) → (EndsOctal tail → EndsOctal other) → SpellsBytes q (inner ++ other) bytes other)

bytes_front : (bytes : List ℕ) (q : ℕ) (text tail : List ℕ) → SpellsBytes q text bytes tail → BytesFront q text bytes tail
bytes_front [] q text tail h = ([], h, λ other e. refl)
bytes_front (b ∷ bytes) q text tail h =
    let part = h.0 in
    let more = h.1 in
    let later = bytes_front bytes q more tail h.4 in
    let inner = later.0 in (
      part ++ inner,
      h.2 ∙ (ap (λ z. part ++ z) later.1 ∙ sym (append_assoc part inner tail)),
      λ other e. (
        part,
        inner ++ other,
        append_assoc part inner other,
        byte_same q part b more (inner ++ other) (λ k. ends_octal_behind inner tail other e (subst EndsOctal later.1 k)) h.3,
        later.2 other e,
      ),
    )

-- ---- tokens

abbrev TokenFront : List ℕ → Token → List ℕ → Type 0
TokenFront here t behind = (spelling : List ℕ) × (here ≡ spelling ++ behind) × ((other : List ℕ) → (EndsRun behind → EndsRun other) → IsTokenAt (spelling ++ other) t other)

string_front : (q : ℕ) (body bytes behind here : List ℕ) (inner : BytesFront q body bytes (q ∷ behind)) → here ≡ q ∷ body → (q ≡ 0x22) ⊎ (q ≡ 0x27) → TokenFront here (token.Bytes bytes) behind
string_front q body bytes behind here inner are is = (
  q ∷ (inner.0 ++ q ∷ []),
  are ∙ ap (λ z. q ∷ z) (inner.1 ∙ sym (append_assoc inner.0 (q ∷ []) behind)),
  λ other e. (q, inner.0 ++ q ∷ other, ap (λ z. q ∷ z) (append_assoc inner.0 (q ∷ []) other), is, inner.2 (q ∷ other) (λ k. k)),
)

token_front : (here : List ℕ) (t : Token) (behind : List ℕ) → IsTokenAt here t behind → TokenFront here t behind
token_front here (token.Word w) behind h = (w, h.0, λ other e. (refl, h.1, e h.2))
token_front here (token.Number n size) behind h = (h.0, h.1, λ other e. (h.0, refl, h.2, e h.3))
token_front here (token.Bytes bytes) behind h = string_front h.0 h.1 bytes behind here (bytes_front bytes h.0 h.1 (h.0 ∷ behind) h.4) h.2 h.3
token_front here token.Colon behind h = (0x3A ∷ [], h, λ other e. refl)
token_front here token.Comma behind h = (0x2C ∷ [], h, λ other e. refl)
token_front here token.Semicolon behind h = (0x3B ∷ [], h, λ other e. refl)
token_front here token.OpenList behind h = (0x5B ∷ [], h, λ other e. refl)
token_front here token.CloseList behind h = (0x5D ∷ [], h, λ other e. refl)
token_front here (token.Open Curly) behind h = (0x7B ∷ [], h, λ other e. refl)
token_front here (token.Close Curly) behind h = (0x7D ∷ [], h, λ other e. refl)
token_front here (token.Open Angle) behind h = (0x3C ∷ [], h, λ other e. refl)
token_front here (token.Close Angle) behind h = (0x3E ∷ [], h, λ other e. refl)
token_front here token.Wrong behind h = absurd h
token_front here (token.Faulty left) behind h = absurd h

-- nothing, or a space and more
abbrev pub StartsBlank : List ℕ → Type 0
StartsBlank text = (text ≡ []) ⊎ ((cs : List ℕ) × (text ≡ 0x20 ∷ cs))

pub blank_ends_run : (text : List ℕ) → StartsBlank text → EndsRun text
blank_ends_run text (inl e) = subst EndsRun (sym e) tt
blank_ends_run text (inr h) = subst EndsRun (sym h.1) refl

ends_run_behind : (front rest other : List ℕ) → EndsRun other → EndsRun (front ++ rest) → EndsRun (front ++ other)
ends_run_behind [] rest other e h = e
ends_run_behind (c ∷ front) rest other e h = h

abbrev pub TokensFront : List ℕ → List Token → List ℕ → Type 0
TokensFront text ts rest = (front : List ℕ) × (text ≡ front ++ rest) × ((other : List ℕ) → StartsBlank other → SpellsTokens (front ++ other) ts other)

pub tokens_front : (ts : List Token) (text rest : List ℕ) → SpellsTokens text ts rest → TokensFront text ts rest
tokens_front [] text rest h = ([], h, λ other s. refl)
tokens_front (t ∷ ts) text rest h =
    let gap = h.0 in
    let here = h.1 in
    let behind = h.2 in
    let first = token_front here t behind h.5 in
    let later = tokens_front ts behind rest h.6 in
    let spelling = first.0 in
    let front = later.0 in
    let regrouped : (z : List ℕ) → (gap ++ (spelling ++ front)) ++ z ≡ gap ++ (spelling ++ (front ++ z)) = λ z. append_assoc gap (spelling ++ front) z ∙ ap (λ y. gap ++ y) (append_assoc spelling front z) in (
      gap ++ (spelling ++ front),
      h.3 ∙ (ap (λ z. gap ++ z) (first.1 ∙ ap (λ z. spelling ++ z) later.1) ∙ sym (regrouped rest)),
      λ other s. (
        gap,
        spelling ++ (front ++ other),
        front ++ other,
        regrouped other,
        h.4,
        first.2 (front ++ other) (λ k. ends_run_behind front rest other (blank_ends_run other s) (subst EndsRun later.1 k)),
        later.2 other s,
      ),
    )

pub spelled_more : (ts us : List Token) (text mid rest : List ℕ) → SpellsTokens text ts mid → SpellsTokens mid us rest → SpellsTokens text (ts ++ us) rest
spelled_more [] us text mid rest h k = subst (λ t. SpellsTokens t us rest) (sym h) k
spelled_more (t ∷ ts) us text mid rest h k = (h.0, h.1, h.2, h.3, h.4, h.5, spelled_more ts us h.2 mid rest h.6 k)

-- ---- tokens that can be written behind others

abbrev pub IsWritable : Token → Type 0
IsWritable t = (spelling : List ℕ) × ((other : List ℕ) → EndsRun other → IsTokenAt (spelling ++ other) t other)

pub comma : IsWritable token.Comma
comma = (0x2C ∷ [], λ other e. refl)

pub colon : IsWritable token.Colon
colon = (0x3A ∷ [], λ other e. refl)

pub list_end : IsWritable token.CloseList
list_end = (0x5D ∷ [], λ other e. refl)

pub opening : IsWritable (token.Open Curly)
opening = (0x7B ∷ [], λ other e. refl)

pub closing : (b : Bracket) → IsWritable (token.Close b)
closing Curly = (0x7D ∷ [], λ other e. refl)
closing Angle = (0x3E ∷ [], λ other e. refl)

pub no_bytes : IsWritable (token.Bytes [])
no_bytes = (0x22 ∷ 0x22 ∷ [], λ other e. (0x22, 0x22 ∷ other, refl, inl refl, refl))

pub letter : IsWritable (token.Word (0x61 ∷ []))
letter = (0x61 ∷ [], λ other e. (refl, (0x61, [], refl, refl, refl), e))

pub zero_number : (negative : Bool) → IsWritable (token.Number negative (Some 0))
zero_number false = (0x30 ∷ [], λ other e. (0x30 ∷ [], refl, ((omega arith, refl), refl), e))
zero_number true = (0x2D ∷ 0x30 ∷ [], λ other e. (0x2D ∷ 0x30 ∷ [], refl, ([], 0x30 ∷ [], refl, ([], refl), (omega arith, refl), refl), e))

-- a text of these tokens, which begins with a space if with anything
abbrev pub IsWritten : List Token → Type 0
IsWritten ts = (text : List ℕ) × StartsBlank text × SpellsTokens text ts []

pub none_written : IsWritten []
none_written = ([], inl refl, refl)

pub one_more_written : (t : Token) (ts : List Token) → IsWritable t → IsWritten ts → IsWritten (t ∷ ts)
one_more_written t ts w later =
    let spelled = w.0 ++ later.0 in
    (0x20 ∷ spelled, inr (spelled, refl), (0x20 ∷ [], spelled, later.0, refl, ((0x20 ∷ []) ∷ [], ([], refl, inl (0x20, refl, refl), refl)), w.1 later.0 (blank_ends_run later.0 later.1), later.2))
