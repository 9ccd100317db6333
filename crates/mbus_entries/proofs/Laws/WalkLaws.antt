-- Reading entries one after the other.
use Prim.Native.Nat.{ℕ, suc, ◌+◌, ◌-◌, ◌≤◌, ◌<◌, zero-le}
use mathlib.Core.Bool.{Bool, true, false, not, ◌||◌, or-true, or-false}
use mathlib.Core.List.{List, [], ◌∷◌, ◌++◌}
use mathlib.Core.Path.{◌≡◌, refl, sym, ap, ◌∙◌}
use native.Mathlib.Decide.{ℕ_discrete}
use native.Mathlib.Numerals.{add-one}
use native.Mathlib.Omega.{arith}
use borrow.Author.Tests.{ltb-false, eq-eqb, ne_eqb}
use lib.Dec.{ltb, eqb}
use lib.ListN.{length, get_or, take, drop, set, replicate, get_or-replicate, length-drop, length-set, drop_of_length-le, take-append-drop}
use lib.Seq.{length-take-le, drop-cons, get_or-set_same, get_or-set_other, take-suc-set, drop-set-lt, drop-drop}
use Rattle.mbus_rules.specs.declared.Entry.{Entry}
use Rattle.std.specs.Prelude.{Result, Ok, Err}
use Rattle.base_rules.specs.declared.refusals.Refusal.{Refusal}
use Rattle.base_rules.specs.Shown.{shown}
use Rattle.base_rules.specs.Lists
use Rattle.base_rules.specs.Lists.{any}
use Rattle.base_rules.proofs.Laws.ListLaws.{any_snoc}
use Rattle.base_rules.specs.Answers.{Answer, reads, refusal, refuse, within, follow}
use Rattle.base_rules.proofs.Laws.AnswerLaws.{follow_refuse, reads_same}
use Rattle.mbus_rules.specs.Quantities.{quantity_of, width_of, paired}
use Rattle.mbus_rules.specs.Entries.{entry_width, seen, missing, read_entries}
use Rattle.mbus_rules.proofs.Laws.RowLaws.{width_most, quantity_few, lacking_same}
use Rattle.mbus_rules.proofs.Laws.EntryLaws.{entries_next}
use Rattle.mbus_rules.proofs.Laws.Seven.{Different, different_last, different_room, fit_known, none_yet}
use Rattle.mbus_rules.specs.Telegrams.{blank_entry}
use Rattle.base_rules.proofs.Laws.Tests.{neither, passed}
use Rattle.mbus_entries.specs.declared.Entries.{Entries}
use Rattle.base_rules.proofs.Laws.AnswerLaws.{shown_ok, shown_err}
use Rattle.mbus_entries.specs.declared.entry.Taken.{Taken}
use Rattle.mbus_entries.specs.Trying.{taken_of, tried, unseen, next_of}
use Rattle.mbus_entries.proofs.Laws.TryLaws.{follow_reads, tried_reads}
use Rattle.mbus_entries.specs.Walking.{listed, unmarked}
use Rattle.base_rules.proofs.Laws.ListLaws.{rest_is}

-- ---- one entry

within_refuse : {A B : Type 0} (n : ℕ) (test : Bool) (x : Answer A) (f : A → B) → within f (refuse n test x) ≡ refuse n test (within f x)
within_refuse n true x f = refl
within_refuse n false x f = refl

-- reading entries is reading the next one, by marks for the entries so far, and then the others
entries_step : (b : ℕ) (s : List ℕ) (done : List Entry) (marks : List Bool)
    → seen (quantity_of (Lists.at (b ∷ s) 1)) done ≡ get_or marks (quantity_of (Lists.at (b ∷ s) 1)) false
    → read_entries 0 (b ∷ s) done ≡ follow (next_of (b ∷ s) marks) (λ (t : Taken). read_entries 0 (drop (2 + t.width) (b ∷ s)) (done ++ (t.entry ∷ [])))
entries_step b s done marks link = entries_next b s done ∙ rw link (sym (simp (follow_refuse, within_refuse)))

-- what is known of an entry that is read
pub record Next (s : List ℕ) (so_far : List Bool) (t : Taken) : Type 0 where
  pub inside : 2 + t.width ≤ length s
  pub narrow : t.width ≤ 8
  pub marks : t.quantity ≡ quantity_of t.entry.unit
  pub known : quantity_of t.entry.unit < 7
  pub new : get_or so_far (quantity_of t.entry.unit) false ≡ false

next_known : (s : List ℕ) (marks : List Bool) {t : Taken} → next_of s marks ≡ reads t → Next s marks t
next_known s marks {t} e =
    let f = follow_reads (tried s) (unseen marks) e in
    let u : Taken = f.0 in
    let p = passed 14 (get_or marks u.quantity false) (reads u) t f.2 in
    let k = tried_reads s f.1 in
    let so : taken_of s k.1 ≡ t = k.2 ∙ reads_same p.1 in
    let unit : Lists.at s 1 ≡ t.entry.unit = ap (λ (x : Taken). x.entry.unit) so in
    let fit = neither (ltb (length s) 2 || not (paired (Lists.at s 0) (Lists.at s 1))) (ltb (length s) (entry_width s)) k.0 in
    let wide : width_of (Lists.at s 0) ≡ t.width = ap (λ (x : Taken). x.width) so in
    record {
      inside = omega (arith, ltb-false (length s) (entry_width s) fit.1);
      narrow = omega (arith, width_most (Lists.at s 0));
      marks = sym (ap (λ (x : Taken). x.quantity) so) ∙ ap (λ (x : Taken). quantity_of x.entry.unit) so;
      known = rw unit at (fit_known s k.0);
      new = ap (λ (x : Taken). get_or marks (quantity_of x.entry.unit) false) (sym so) ∙ ap (λ (x : Taken). get_or marks x.quantity false) k.2 ∙ p.0;
    }

-- ---- the walk

pub record Walked (rest : List ℕ) (at count : ℕ) (marks : List Bool) (entries : List Entry) : Type 0 where
  pub inside : at ≤ length rest
  pub held : length entries ≡ 7
  pub sized : length (take count entries) ≡ count
  pub different : Different (take count entries)
  pub blanks : drop count entries ≡ replicate (7 - count) blank_entry
  pub marked : length marks ≡ 8
  pub link : (q : ℕ) → q < 8 → get_or marks q false ≡ seen q (take count entries)
  pub so : read_entries 0 (drop at rest) (take count entries) ≡ read_entries 0 rest []

pub walked_none : (rest : List ℕ) → Walked rest 0 0 (replicate 8 false) (replicate 7 blank_entry)
unfolding any
walked_none rest = record {
  inside = zero-le;
  held = refl;
  sized = refl;
  different = none_yet;
  blanks = refl;
  marked = refl;
  link = λ q h. get_or-replicate 8 q false false h;
  so = refl;
}

-- one more entry is marked
mark_more : (marks : List Bool) (done : List Entry) (e : Entry) → length marks ≡ 8 → ((q : ℕ) → q < 8 → get_or marks q false ≡ seen q done)
    → (q : ℕ) → q < 8 → get_or (set marks (quantity_of e.unit) true) q false ≡ seen q (done ++ (e ∷ []))
mark_more marks done e m link q h = go (ℕ_discrete q (quantity_of e.unit))
  where
    test : Entry → Bool
    test x = eqb (quantity_of x.unit) q

    go : Dec (q ≡ quantity_of e.unit) → get_or (set marks (quantity_of e.unit) true) q false ≡ seen q (done ++ (e ∷ []))
    go (yes p) =
        ap (λ (k : ℕ). get_or (set marks (quantity_of e.unit) true) k false) p
        ∙ get_or-set_same marks (quantity_of e.unit) true false (omega (arith, m, quantity_few e.unit))
        ∙ sym (any_snoc test done e ∙ ap (λ (t : Bool). any test done || t) (eq-eqb (quantity_of e.unit) q (sym p)) ∙ or-true (any test done))
    go (no n) =
        get_or-set_other marks (quantity_of e.unit) q true false n
        ∙ link q h
        ∙ sym (any_snoc test done e ∙ ap (λ (t : Bool). any test done || t)
        (ne_eqb (quantity_of e.unit) q (λ (p : quantity_of e.unit ≡ q). n (sym p))) ∙ or-false (any test done))

one_less : (count : ℕ) (entries : List Entry) → count < 7 → drop count entries ≡ replicate (7 - count) blank_entry
    → drop (count + 1) entries ≡ replicate (7 - (count + 1)) blank_entry
one_less count entries h e =
    let k : 7 - count ≡ suc (7 - (count + 1)) = omega arith in
    sym (drop-drop 1 count entries) ∙ ap (drop 1) (e ∙ ap (λ (n : ℕ). replicate n blank_entry) k)

-- what is left is read by an entry and the others
module _ {rest : List ℕ} {at count : ℕ} {marks : List Bool} {entries : List Entry} (w : Walked rest at count marks entries) (h : at < length rest) where
  abbrev others : Taken → Answer (List Entry)
  others t = read_entries 0 (drop (2 + t.width) (drop at rest)) (take count entries ++ (t.entry ∷ []))

  walked_step : read_entries 0 rest [] ≡ follow (next_of (drop at rest) marks) others
  walked_step =
      let begins : drop at rest ≡ Lists.at rest at ∷ drop (suc at) rest = drop-cons rest at 0 h in
      sym w.so
      ∙ ap (λ (s : List ℕ). read_entries 0 s (take count entries)) begins
      ∙ entries_step (Lists.at rest at) (drop (suc at) rest) (take count entries) marks (sym (w.link _ (quantity_few _)))
      ∙ ap (λ (s : List ℕ). follow (next_of s marks)
      (λ (t : Taken). read_entries 0 (drop (2 + t.width) s) (take count entries ++ (t.entry ∷ []))))
      (sym begins)

  module _ {t : Taken} (e : next_of (drop at rest) marks ≡ reads t) where
    known : Next (drop at rest) marks t
    known = next_known (drop at rest) marks e

    fresh : seen (quantity_of t.entry.unit) (take count entries) ≡ false
    fresh = sym (w.link _ (quantity_few _)) ∙ known.new

    -- a new quantity finds a place: there are seven, and seven different entries have them all
    below : count < 7
    below = rw w.sized at (different_room _ (take count entries) w.different known.known fresh)

    taken : take (count + 1) (set entries count t.entry) ≡ take count entries ++ (t.entry ∷ [])
    taken = rw add-one (take-suc-set entries count t.entry (omega (arith, w.held, below)))

    walked_next : Walked rest (at + (2 + t.width)) (count + 1) (set marks t.quantity true) (set entries count t.entry)
    walked_next = record {
      inside = omega (arith, known.inside, length-drop at rest);
      held = length-set entries count t.entry ∙ w.held;
      sized = length-take-le (count + 1) (set entries count t.entry) (rw (length-set, w.held) (omega (arith, below)));
      different = rw taken (different_last (take count entries) t.entry w.different known.known fresh);
      blanks = drop-set-lt (count + 1) entries count t.entry (omega arith) ∙ one_less count entries below w.blanks;
      marked = length-set marks t.quantity true ∙ w.marked;
      link = rw (known.marks, taken) (mark_more marks (take count entries) t.entry w.marked w.link);
      so =
          rw taken
          (ap (λ (s : List ℕ). read_entries 0 s (take count entries ++ (t.entry ∷ []))) (sym (drop-drop (2 + t.width) at rest))
          ∙ sym (walked_step ∙ ap (λ (a : Answer Taken). follow a others) e));
    }

-- one turn of the walk, on what the code was told of the entry: it is passed over, or it is what the rest is refused by
pub record Turn (rest : List ℕ) (at count : ℕ) (marks : List Bool) (entries : List Entry) (t : Taken) : Type 0 where
  pub below : count < 7
  pub few : t.quantity < 8
  pub narrow : t.width ≤ 8
  pub inside : at + (2 + t.width) ≤ length rest
  pub next : Walked rest (at + (2 + t.width)) (count + 1) (set marks t.quantity true) (set entries count t.entry)

module _ {rest : List ℕ} {at count : ℕ} {marks : List Bool} {entries : List Entry} {y : Result Taken Refusal} (w : Walked rest at count marks entries) (h : at < length rest)
    (e : y ≡ shown (next_of (take (length rest - at) (drop at rest)) marks)) where
  told : shown (next_of (drop at rest) marks) ≡ y
  told = sym (e ∙ ap (λ (s : List ℕ). shown (next_of s marks)) (rest_is rest at))

  pub turned : {t : Taken} → y ≡ Ok t → Turn rest at count marks entries t
  turned {t} p =
      let n = shown_ok (next_of (drop at rest) marks) t (told ∙ p) in
      let k = known w h n in
      record {
        below = below w h n;
        few = rw k.marks (quantity_few t.entry.unit);
        narrow = k.narrow;
        inside = omega (arith, k.inside, length-drop at rest);
        next = walked_next w h n;
      }

  pub halted : {n : Refusal} → y ≡ Err n → read_entries 0 rest [] ≡ refusal n.0
  halted {n} p = walked_step w h ∙ ap (λ (a : Answer Taken). follow a (others w h)) (shown_err (next_of (drop at rest) marks) n.0 (told ∙ p))

-- ---- the end

module _ {rest : List ℕ} {at count : ℕ} {marks : List Bool} {entries : List Entry} (w : Walked rest at count marks entries) (h : length rest ≤ at) where
  -- all required quantities are marked, or 16
  walked_all : read_entries 0 rest [] ≡ refuse 16 (unmarked marks) (reads (take count entries))
  unfolding read_entries
  walked_all =
      sym w.so
      ∙ ap (λ (s : List ℕ). read_entries 0 s (take count entries)) (drop_of_length-le rest h)
      ∙ ap (λ (t : Bool). refuse 16 t (reads (take count entries))) (sym marks-missing)
    where
      marks-missing : unmarked marks ≡ missing (take count entries)
      marks-missing = lacking_same (λ q. get_or marks q false) (λ q. seen q (take count entries)) w.link

  walked_whole : ◌≡◌ {A = Entries} (record { count = count; entries = entries }) (listed (take count entries))
  walked_whole =
      let all : entries ≡ take count entries ++ replicate (7 - count) blank_entry =
      sym (take-append-drop count entries) ∙ ap (λ (l : List Entry). take count entries ++ l) w.blanks in
      let n : count ≡ length (take count entries) = sym w.sized in
      λ i. record { count = n i; entries = (all ∙ ap (λ (k : ℕ). take count entries ++ replicate (7 - k) blank_entry) n) i }

  -- by the test of the marks
  module _ {lacks : Bool} (e : lacks ≡ unmarked marks) where
    pub ended_missing : lacks ≡ true → read_entries 0 rest [] ≡ refusal 16
    ended_missing t = rw (walked_all, ← e, t)

    pub ended_whole : lacks ≡ false
        → ◌≡◌ {A = Result Entries Refusal} (Ok (record { count = count; entries = entries })) (shown (within listed (read_entries 0 rest [])))
    ended_whole t = rw (walked_all, ← e, t) (λ i. Ok (walked_whole i))
