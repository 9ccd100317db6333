-- The words of verdicts and of lines, cut from all of them.
use Prim.Native.Nat.{ℕ, zero, suc, ◌+◌, ◌-◌, ◌≤◌, ◌<◌}
use mathlib.Core.List.{List, [], ◌∷◌, ◌++◌, append_assoc, append-nil}
use mathlib.Core.Path.{◌≡◌, refl}
use native.Mathlib.Omega.{arith}
use lib.ListN.{length, get_or, take, drop}
use Rattle.text_filling.specs.Texts.{text}
use Rattle.base_lent.specs.Pieces.{pieces}
use Rattle.run_verdicts.specs.declared.Verdict.{Verdict}
use Rattle.run_verdicts.specs.declared.Verdict.TheVariants.{Wake, First, Resend, Refused, Counts, LeftOver, Late, Second, Damaged, WrongKind, Unasked}
use Rattle.run_picture.specs.Elements.{verdict_text, wording_of, window_text, told_text}
use Rattle.run_picture.specs.Words.{numbered_word}

-- a part of a text, between two edges
abbrev pub part : List ℕ → List ℕ → ℕ → List ℕ
part all edges k = take (get_or edges (k + 1) 0 - get_or edges k 0) (drop (get_or edges k 0) all)

-- edges that do not go back
pub record Edged (all edges : List ℕ) (k : ℕ) : Type 0 where
  pub inside : k + 1 < length edges
  pub order : get_or edges k 0 ≤ get_or edges (k + 1) 0
  pub end : get_or edges (k + 1) 0 ≤ length all

-- ---- verdicts
abbrev pub verdict_words : List ℕ
verdict_words =
    pieces text
    ("<g class='wake'><title>wake-up: "
    ∷ "' y='1' width='450' height='22'/>\n<g class='first'><title>first send: "
    ∷ "' y='1' width='450' height='22'/>\n<g class='resend'><title>resend: "
    ∷ "<g class='refused'><title>refused by "
    ∷ "<g class='counts'><title>counts: "
    ∷ "<g class='left-over'><title>left over: "
    ∷ "<g class='late'><title>late: "
    ∷ "<g class='second'><title>second: "
    ∷ "<g class='damaged'><title>damaged, "
    ∷ "<g class='wrong-kind'><title>wrong kind: "
    ∷ "<g class='unasked'><title>not asked for: "
    ∷ [])

abbrev pub verdict_edges : List ℕ
verdict_edges = 0 ∷ 32 ∷ 102 ∷ 169 ∷ 206 ∷ 239 ∷ 278 ∷ 307 ∷ 340 ∷ 375 ∷ 416 ∷ 457 ∷ []

pub verdict_edges_lem : (v : Verdict) → Edged verdict_words verdict_edges (wording_of v).place
verdict_edges_lem Wake = record { inside = omega arith; order = omega arith; end = omega arith }
verdict_edges_lem First = record { inside = omega arith; order = omega arith; end = omega arith }
verdict_edges_lem Resend = record { inside = omega arith; order = omega arith; end = omega arith }
verdict_edges_lem (Refused n) = record { inside = omega arith; order = omega arith; end = omega arith }
verdict_edges_lem Counts = record { inside = omega arith; order = omega arith; end = omega arith }
verdict_edges_lem LeftOver = record { inside = omega arith; order = omega arith; end = omega arith }
verdict_edges_lem Late = record { inside = omega arith; order = omega arith; end = omega arith }
verdict_edges_lem Second = record { inside = omega arith; order = omega arith; end = omega arith }
verdict_edges_lem (Damaged n) = record { inside = omega arith; order = omega arith; end = omega arith }
verdict_edges_lem WrongKind = record { inside = omega arith; order = omega arith; end = omega arith }
verdict_edges_lem Unasked = record { inside = omega arith; order = omega arith; end = omega arith }

pub verdict_words_lem : (v : Verdict) (end : ℕ)
    → window_text (wording_of v).place end ++ (part verdict_words verdict_edges (wording_of v).place ++ told_text (wording_of v).place (wording_of v).number)
    ≡ verdict_text v end
verdict_words_lem Wake end = refl
verdict_words_lem First end = simp (append_assoc, append-nil)
verdict_words_lem Resend end = simp (append_assoc, append-nil)
verdict_words_lem (Refused n) end = refl
verdict_words_lem Counts end = refl
verdict_words_lem LeftOver end = refl
verdict_words_lem Late end = refl
verdict_words_lem Second end = refl
verdict_words_lem (Damaged n) end = refl
verdict_words_lem WrongKind end = refl
verdict_words_lem Unasked end = refl

-- ---- lines
abbrev pub line_words : List ℕ
line_words = text "wakeackreadenterleavedata"

abbrev pub line_edges : List ℕ
line_edges = 0 ∷ 4 ∷ 7 ∷ 11 ∷ 16 ∷ 21 ∷ 25 ∷ []

pub line_edges_lem : (w : ℕ) → w < 6 → Edged line_words line_edges w
line_edges_lem zero h = record { inside = omega arith; order = omega arith; end = omega arith }
line_edges_lem (suc zero) h = record { inside = omega arith; order = omega arith; end = omega arith }
line_edges_lem (suc (suc zero)) h = record { inside = omega arith; order = omega arith; end = omega arith }
line_edges_lem (suc (suc (suc zero))) h = record { inside = omega arith; order = omega arith; end = omega arith }
line_edges_lem (suc (suc (suc (suc zero)))) h = record { inside = omega arith; order = omega arith; end = omega arith }
line_edges_lem (suc (suc (suc (suc (suc zero))))) h = record { inside = omega arith; order = omega arith; end = omega arith }
line_edges_lem (suc (suc (suc (suc (suc (suc w)))))) h = absurd (omega arith)

pub line_words_lem : (w : ℕ) → w < 6 → part line_words line_edges w ≡ numbered_word w
unfolding numbered_word
line_words_lem zero h = refl
line_words_lem (suc zero) h = refl
line_words_lem (suc (suc zero)) h = refl
line_words_lem (suc (suc (suc zero))) h = refl
line_words_lem (suc (suc (suc (suc zero)))) h = refl
line_words_lem (suc (suc (suc (suc (suc zero))))) h = refl
line_words_lem (suc (suc (suc (suc (suc (suc w)))))) h = absurd (omega arith)
