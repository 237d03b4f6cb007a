-- What a text has in front of its next token is the gap that the productions say.
use Rattle.std.proofs.Common.{◌≡◌, ◌∙◌, ◌++◌, ℕ, Bool, true, false, not, List, [], ◌∷◌, refl, ap, sym, subst, inl, inr, append_assoc, append-nil}
use Rattle.std.specs.Prelude.{◌==◌, ◌⊎◌, Option, Some, None}
use Rattle.std.specs.List.{list_all}
use Rattle.std.proofs.lemmas.Bool.{and_parts, and_from, eqb-true}
use Rattle.vs_base.specs.Blanks.{is_blank}
use Rattle.vs_journal.specs.Tokens.{gap_behind, past_gap}
use Rattle.vs_journal.specs.Spellings.{AreGapParts, BeginsNoGap, IsBlank, IsComment, IsGap, IsLastGap, is_in_line}

-- a byte that a test tells from another is not that byte
pub differs : (p : ℕ → Bool) (c d : ℕ) → p c ≡ true → p d ≡ false → (c == d) ≡ false
differs p c d h k = go (c == d) refl
  where
    go : (b : Bool) → (c == d) ≡ b → b ≡ false
    go true e =
        let same : c ≡ d = eqb-true c d e in
        let clash : true ≡ false = sym h ∙ ap p same ∙ k in
        absurd (cc)
    go false e = refl

-- ---- a gap is passed over

past_line : (line rest : List ℕ) → list_all is_in_line line ≡ true → past_gap true (line ++ 0x0A ∷ rest) ≡ past_gap false rest
past_line [] rest h = refl
past_line (c ∷ line) rest h =
    let parts = and_parts (is_in_line c) (list_all is_in_line line) h in
    ap (λ b. past_gap b (line ++ 0x0A ∷ rest)) parts.0 ∙ past_line line rest parts.1

past_last_line : (line : List ℕ) → list_all is_in_line line ≡ true → past_gap true line ≡ []
past_last_line [] h = refl
past_last_line (c ∷ line) h =
    let parts = and_parts (is_in_line c) (list_all is_in_line line) h in
    ap (λ b. past_gap b line) parts.0 ∙ past_last_line line parts.1

blank_behind : (c : ℕ) → (c == 0x23) ≡ false → is_blank c ≡ true → gap_behind false c ≡ Some false
blank_behind c hash blank = rw (hash, blank, gap_behind) refl

none_behind : (c : ℕ) → (c == 0x23) ≡ false → is_blank c ≡ false → gap_behind false c ≡ None
none_behind c hash blank = rw (hash, blank, gap_behind) refl

abbrev by_gap : Option Bool → ℕ → List ℕ → List ℕ
by_gap None c cs = c ∷ cs
by_gap (Some more) c cs = past_gap more cs

past_by : (c : ℕ) (cs : List ℕ) (o : Option Bool) → gap_behind false c ≡ o → past_gap false (c ∷ cs) ≡ by_gap o c cs
past_by c cs o e = at (gap_behind false c) refl ∙ ap (λ q. by_gap q c cs) e
  where
    at : (q : Option Bool) → gap_behind false c ≡ q → past_gap false (c ∷ cs) ≡ by_gap q c cs
    at None k = ap (λ (q : Option Bool). elim q as (λ _. List ℕ) [ None ↦ c ∷ cs | Some more ↦ past_gap more cs ]) k
    at (Some more) k = ap (λ (q : Option Bool). elim q as (λ _. List ℕ) [ None ↦ c ∷ cs | Some more ↦ past_gap more cs ]) k

past_blank : (c : ℕ) (rest : List ℕ) → is_blank c ≡ true → past_gap false (c ∷ rest) ≡ past_gap false rest
past_blank c rest h = past_by c rest (Some false) (blank_behind c (differs is_blank c 0x23 h refl) h)

part_passed : (part rest : List ℕ) → IsBlank part ⊎ IsComment part → past_gap false (part ++ rest) ≡ past_gap false rest
part_passed part rest (inl h) = ap (λ t. past_gap false (t ++ rest)) h.1 ∙ past_blank h.0 rest h.2
part_passed part rest (inr h) =
    ap (λ t. past_gap false (t ++ rest)) h.1
    ∙ (ap (λ t. past_gap true t) (append_assoc h.0 (0x0A ∷ []) rest) ∙ past_line h.0 rest h.2)

gap_parts_passed : (parts : List (List ℕ)) (text rest : List ℕ) → AreGapParts text parts → past_gap false (text ++ rest) ≡ past_gap false rest
gap_parts_passed [] text rest h = ap (λ t. past_gap false (t ++ rest)) h
gap_parts_passed (part ∷ parts) text rest h =
    ap (λ t. past_gap false (t ++ rest)) h.1
    ∙ (ap (past_gap false) (append_assoc part h.0 rest) ∙ (part_passed part (h.0 ++ rest) h.2 ∙ gap_parts_passed parts h.0 rest h.3))

pub gap_passed : (gap rest : List ℕ) → IsGap gap → past_gap false (gap ++ rest) ≡ past_gap false rest
gap_passed gap rest g = gap_parts_passed g.0 gap rest g.1

stays : (c : ℕ) (cs : List ℕ) → is_blank c ≡ false → (c == 0x23) ≡ false → past_gap false (c ∷ cs) ≡ c ∷ cs
stays c cs blank hash = past_by c cs None (none_behind c hash blank)

pub gap_stays : (text : List ℕ) → BeginsNoGap text → past_gap false text ≡ text
gap_stays text h = ap (past_gap false) h.2 ∙ (stays h.0 h.1 h.3 h.4 ∙ sym h.2)

pub last_gap_passed : (text : List ℕ) → IsLastGap text → past_gap false text ≡ []
last_gap_passed text (inl g) = ap (past_gap false) (sym (append-nil text)) ∙ gap_passed text [] g
last_gap_passed text (inr h) = ap (past_gap false) h.2 ∙ (gap_passed h.0 (0x23 ∷ h.1) h.3 ∙ past_last_line h.1 h.4)

-- ---- and what is passed over is one

abbrev pub GapFound : List ℕ → List ℕ → Type 0
GapFound text rest = (IsLastGap text × (rest ≡ [])) ⊎ ((gap : List ℕ) × (text ≡ gap ++ rest) × IsGap gap × BeginsNoGap rest)

abbrev LineFound : List ℕ → List ℕ → Type 0
LineFound text rest =
    ((list_all is_in_line text ≡ true) × (rest ≡ []))
    ⊎ ((line after : List ℕ) × (text ≡ line ++ 0x0A ∷ after) × (list_all is_in_line line ≡ true) × GapFound after rest)

last_in_front : (part text : List ℕ) → IsBlank part ⊎ IsComment part → IsLastGap text → IsLastGap (part ++ text)
last_in_front part text is (inl g) = inl (part ∷ g.0, (text, refl, is, g.1))
last_in_front part text is (inr h) =
    inr (part ++ h.0, h.1, ap (λ t. part ++ t) h.2 ∙ sym (append_assoc part h.0 (0x23 ∷ h.1)), (part ∷ h.3.0, (h.0, refl, is, h.3.1)), h.4)

in_front : (part text rest : List ℕ) → IsBlank part ⊎ IsComment part → GapFound text rest → GapFound (part ++ text) rest
in_front part text rest is (inl h) = inl (last_in_front part text is h.0, h.1)
in_front part text rest is (inr h) =
    inr (part ++ h.0, ap (λ t. part ++ t) h.1 ∙ sym (append_assoc part h.0 rest), (part ∷ h.2.0, (h.0, refl, is, h.2.1)), h.3)

abbrev Found : Bool → List ℕ → List ℕ → Type 0
Found true text rest = LineFound text rest
Found false text rest = GapFound text rest

line_goes_on : (c : ℕ) (cs rest : List ℕ) → is_in_line c ≡ true → LineFound cs rest → LineFound (c ∷ cs) rest
line_goes_on c cs rest e (inl h) = inl (and_from (is_in_line c) (list_all is_in_line cs) e h.0, h.1)
line_goes_on c cs rest e (inr h) = inr (c ∷ h.0, h.1, ap (λ t. c ∷ t) h.2, and_from (is_in_line c) (list_all is_in_line h.0) e h.3, h.4)

line_step : (c : ℕ) (cs : List ℕ) (b : Bool) → (c == 0x0A) ≡ b → LineFound cs (past_gap true cs) → GapFound cs (past_gap false cs) → LineFound (c ∷ cs) (past_gap (not b) cs)
line_step c cs true e t f = inr ([], cs, ap (λ d. d ∷ cs) (eqb-true c 0x0A e), refl, f)
line_step c cs false e t f = line_goes_on c cs (past_gap true cs) (ap not e) t

opened : (cs rest : List ℕ) → LineFound cs rest → GapFound (0x23 ∷ cs) rest
opened cs rest (inl h) = inl (inr ([], cs, refl, ([], refl), h.0), h.1)
opened cs rest (inr h) =
    let part = 0x23 ∷ (h.0 ++ 0x0A ∷ []) in
    let are : 0x23 ∷ cs ≡ part ++ h.1 = ap (λ t. 0x23 ∷ t) (h.2 ∙ sym (append_assoc h.0 (0x0A ∷ []) h.1)) in
    subst (λ t. GapFound t rest) (sym are) (in_front part h.1 rest (inr (h.0, refl, h.3)) h.4)

gap_step : (c : ℕ) (cs : List ℕ) (b d : Bool) → (c == 0x23) ≡ b → is_blank c ≡ d → LineFound cs (past_gap true cs) → GapFound cs (past_gap false cs) → GapFound (c ∷ cs) (past_gap false (c ∷ cs))
gap_step c cs true d e k t f =
    let same : c ≡ 0x23 = eqb-true c 0x23 e in
    subst (λ x. GapFound (x ∷ cs) (past_gap false (x ∷ cs))) (sym same) (opened cs (past_gap true cs) t)
gap_step c cs false true e k t f = rw (past_blank c cs k) (in_front (c ∷ []) cs (past_gap false cs) (inl (c, refl, k)) f)
gap_step c cs false false e k t f = rw (stays c cs k e) (inr ([], refl, ([], refl), (c, cs, refl, k, e)))

found : (comment : Bool) (text : List ℕ) → Found comment text (past_gap comment text)
found false [] = inl (inl ([], refl), refl)
found true [] = inl (refl, refl)
found true (c ∷ cs) = line_step c cs (c == 0x0A) refl (found true cs) (found false cs)
found false (c ∷ cs) = gap_step c cs (c == 0x23) (is_blank c) refl refl (found true cs) (found false cs)

pub gap_found : (text : List ℕ) → GapFound text (past_gap false text)
gap_found text = found false text
