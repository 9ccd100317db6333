-- What is answered with a template can be written.
use Prim.Native.Nat.{ℕ, zero, suc, ◌*◌, ◌%◌, ◌≤◌, ◌<◌, zero-le, ◌^◌}
use native.Mathlib.Omega.{arith}
use mathlib.Core.Bool.{Bool, true, false, cond, not, ◌&&◌, ◌||◌, true≢false, and-eq-true_iff}
use mathlib.Core.List.{List, [], ◌∷◌, ◌++◌, map}
use mathlib.Core.Path.{◌≡◌, refl, sym, ap, ap₂, ◌∙◌, fun_ext}
use borrow.Author.Tests.{eqb-true, eqb-false, lt-ltb, ltb-true, ltb-false, not-false}
use lib.Dec.{eqb, ltb, lit<}
use lib.IntN.{ℤ, pos, negsuc, nat_abs}
use lib.ListN.{take, drop, length-map}
use Rattle.mbus_rules.specs.declared.Kind.{Kind}
use Rattle.mbus_rules.specs.declared.Kind.TheVariants as kinds
use Rattle.mbus_rules.specs.declared.Telegram.{Telegram}
use Rattle.mbus_rules.specs.declared.Decimal.{Decimal}
use Rattle.mbus_rules.specs.declared.Entry.{Entry}
use Rattle.mbus_rules.specs.declared.Value.{Value}
use Rattle.mbus_rules.specs.declared.Value.TheVariants.{Number, Time, Binary}
use Rattle.base_rules.specs.Answers.{Answer, reads, refusal}
use Rattle.base_rules.specs.Lists.{any}
use Rattle.base_rules.proofs.Laws.ListLaws.{any_map, map_take, map_drop}
use Rattle.mbus_rules.specs.Quantities.{quantity_of, width_of, paired, is_time, is_binary, volume, energy}
use Rattle.mbus_rules.specs.Signs.{fits_signed}
use Rattle.base_numbers.specs.TwosComplement.{below_zero}
use Rattle.mbus_rules.specs.Entries.{may_fall, seen, missing}
use Rattle.base_rules.proofs.Laws.Tests.{by_test, neither}
use Rattle.mbus_rules.proofs.Laws.RowLaws.{lacking_same}
use Rattle.mbus_rules.specs.TelegramSizes.{Sized}
use Rattle.mbus_rules.specs.Writing.{entries_of, used_value, used_entry, wrong_value, wrong_entry, unwritten_header, repeats, wrong_data, wrong_for, unwritable}
use Rattle.meter_template.specs.declared.Pair.{Pair}
use Rattle.meter_template.specs.Templates.{is_data_kind, holds, lacks, unfit_template, value_count, total_in, pair_in, next_access, raised, counted}
use Rattle.meter_template.specs.Templates.{filled_entry, filled, data_with, total_most, passes, overflows, plus}
use Rattle.meter_template.proofs.Laws.Walks.{pass_fits}

-- both totals are within the limit
pub record Within (p : Pair) : Type 0 where
  pub volume : p.volume ≤ total_most
  pub energy : p.energy ≤ total_most

-- ---- structure and unit stay

module _ (p : Pair) (e : Entry) where
  -- what holds of the entry as it is and with each total holds of the filled one
  by_filled : (P : Entry → Type 0) → (holds volume e ≡ true → P (counted p.volume e)) → (holds energy e ≡ true → P (counted p.energy e)) → P e
      → P (filled_entry p e)
  by_filled P v n same = go (holds volume e) refl (holds energy e) refl
    where
      go : (a : Bool) → holds volume e ≡ a → (b : Bool) → holds energy e ≡ b → P (cond a (counted p.volume e) (cond b (counted p.energy e) e))
      go true a b h = v a
      go false a true h = n h
      go false a false h = same

  filled_unit : (filled_entry p e).unit ≡ e.unit
  filled_unit = by_filled (λ (x : Entry). x.unit ≡ e.unit) (λ h. refl) (λ h. refl) refl

seen_filled : (p : Pair) (q : ℕ) (es : List Entry) → seen q (filled p es) ≡ seen q es
seen_filled p q es =
    sym (any_map (λ (e : Entry). eqb (quantity_of e.unit) q) (filled_entry p) es)
    ∙ ap (λ (test : Entry → Bool). any test es) (fun_ext (λ (e : Entry). ap (λ (u : ℕ). eqb (quantity_of u) q) (filled_unit p e)))

map_snoc : {A B : Type 0} (f : A → B) (s : List A) (x : A) → map f (s ++ (x ∷ [])) ≡ map f s ++ (f x ∷ [])
map_snoc f [] x = refl
map_snoc f (y ∷ s) x = ap (λ (l : List _). f y ∷ l) (map_snoc f s x)

repeats_filled : (p : Pair) (done es : List Entry) → repeats (filled p done) (filled p es) ≡ repeats done es
unfolding repeats
repeats_filled p done [] = refl
repeats_filled p done (e ∷ es) =
    ap₂ ◌||◌ (ap (λ (u : ℕ). seen (quantity_of u) (filled p done)) (filled_unit p e) ∙ seen_filled p (quantity_of e.unit) done)
    (ap (λ (l : List Entry). repeats l (filled p es)) (sym (map_snoc (filled_entry p) done e)) ∙ repeats_filled p (done ++ (e ∷ [])) es)

missing_filled : (p : Pair) (es : List Entry) → missing (filled p es) ≡ missing es
missing_filled p es = lacking_same (λ q. seen q (filled p es)) (λ q. seen q es) (λ q h. seen_filled p q es)

-- ---- what holds a total, and what its count may be

-- a list that keeps a test: where no element passes one, no element made of it passes the other
any_kept : {A : Type 0} (test : A → Bool) (f : A → A) → ((x : A) → test x ≡ false → test (f x) ≡ false) → (s : List A) → any test s ≡ false
    → any test (map f s) ≡ false
unfolding any
any_kept test f keeps [] e = refl
any_kept test f keeps (x ∷ s) e =
    let both = neither (test x) (any test s) e in
    ap₂ ◌||◌ (keeps x both.0) (any_kept test f keeps s both.1)

held_structure : (q : ℕ) (e : Entry) → holds q e ≡ true → e.structure ≡ 0x0C
held_structure q e h = eqb-true e.structure 0x0C ((and-eq-true_iff (eqb e.structure 0x0C) (eqb (quantity_of e.unit) q)).0 h).0

-- a total is no point in time
held_number : (q : ℕ) (e : Entry) → q < 2 → holds q e ≡ true → is_time e.unit ≡ false
unfolding quantity_of
held_number q e small h =
    by_test (is_time e.unit)
    (λ time.
    let at : e.unit ≡ 0x6D = eqb-true e.unit 0x6D time in
    let row : quantity_of e.unit ≡ q = eqb-true (quantity_of e.unit) q ((and-eq-true_iff (eqb e.structure 0x0C) (eqb (quantity_of e.unit) q)).0 h).1 in
    let six : 6 ≡ q = sym (ap quantity_of at) ∙ row in
    absurd (omega arith))
    (λ other. other)

wrong_counted : (q n : ℕ) (e : Entry) → q < 2 → n ≤ total_most → holds q e ≡ true → wrong_entry e ≡ false → wrong_entry (counted n e) ≡ false
unfolding width_of
wrong_counted q n e small fits h right =
    let both = neither (not (paired e.structure e.unit)) (wrong_value e.structure e.unit e.value) right in
    ap₂ ◌||◌ both.0
    (ap₂ ◌||◌ (ap₂ ◌||◌ (ap₂ ◌||◌ (held_number q e small h) (ap is_binary (held_structure q e h)))
    (ap (λ (st : ℕ). not (ltb (n % 2 ^ 63) (100 ^ width_of st))) (held_structure q e h) ∙ ap not (lt-ltb (n % 2 ^ 63) 100000000 (omega arith)))) refl)

wrong_filled : (p : Pair) → Within p → (e : Entry) → wrong_entry e ≡ false → wrong_entry (filled_entry p e) ≡ false
wrong_filled p w e right =
    by_filled p e (λ (x : Entry). wrong_entry x ≡ false) (λ h. wrong_counted volume p.volume e (lit< tt) w.volume h right)
    (λ h. wrong_counted energy p.energy e (lit< tt) w.energy h right) right

-- a blank place holds no total
unused_holds : (q : ℕ) (e : Entry) → used_entry e ≡ false → holds q e ≡ false
unused_holds q e u =
    let blank = (neither (ltb 0 e.structure) (ltb 0 e.unit) (neither (ltb 0 e.structure || ltb 0 e.unit) (used_value e.value) u).0).0 in
    let none : e.structure ≡ 0 = omega (arith, ltb-false 0 e.structure blank) in
    rw none

used_filled : (p : Pair) (e : Entry) → used_entry e ≡ false → used_entry (filled_entry p e) ≡ false
used_filled p e u = rw (unused_holds volume e u, unused_holds energy e u) u

-- ---- the totals of a template that can be written are within the limit

-- a number that fits has a size of so many digits
pub size_within : (w : ℕ) (z : ℤ) → fits_signed w z ≡ true → nat_abs z < 100 ^ w
size_within w (pos n) e = ltb-true n (100 ^ w) e
size_within w (negsuc n) e = omega (arith, ltb-true (10 * suc n) (100 ^ w) e)

-- an entry's number that is right fits
pub right_fits : (e : Entry) (d : Decimal) → wrong_value e.structure e.unit (Number d) ≡ false
    → fits_signed (width_of e.structure) d.count ≡ true
right_fits e d w =
    let fits = fits_signed (width_of e.structure) d.count in
    let long = (neither (is_time e.unit || is_binary e.structure || not fits) (below_zero d.count && not (may_fall e.unit)) w).0 in
    not-false fits (neither (is_time e.unit || is_binary e.structure) (not fits) long).1

counted_within : (q : ℕ) (e : Entry) → holds q e ≡ true → wrong_entry e ≡ false → value_count e.value ≤ total_most
unfolding width_of
counted_within q e h right = go e.value (neither (not (paired e.structure e.unit)) (wrong_value e.structure e.unit e.value) right).1
  where
    go : (x : Value) → wrong_value e.structure e.unit x ≡ false → value_count x ≤ total_most
    go (Time m) w = zero-le
    go (Binary b) w = zero-le
    go (Number d) w =
        let small : nat_abs d.count < 100 ^ width_of e.structure = size_within (width_of e.structure) d.count (right_fits e d w) in
        let eight : nat_abs d.count < 100000000 = rw (held_structure q e h) at small in
        omega arith

total_blank : (q : ℕ) (es : List Entry) → any used_entry es ≡ false → total_in q es ≡ 0
unfolding any total_in
total_blank q [] u = refl
total_blank q (e ∷ es) u =
    let both = neither (used_entry e) (any used_entry es) u in
    rw (unused_holds q e both.0) (total_blank q es both.1)

total_within : (q n : ℕ) (es : List Entry) → any wrong_entry (take n es) ≡ false → any used_entry (drop n es) ≡ false → total_in q es ≤ total_most
unfolding any total_in
total_within q zero es w u = rw (total_blank q es u) zero-le
total_within q (suc n) [] w u = zero-le
total_within q (suc n) (e ∷ es) w u =
    let both = neither (wrong_entry e) (any wrong_entry (take n es)) w in
    by_test (holds q e) (λ h. rw h (counted_within q e h both.0)) (λ h. rw h (total_within q n es both.1 u))

-- ---- the whole telegram

data_kind : (k : Kind) → not (is_data_kind k) ≡ false → k ≡ kinds.Data
data_kind kinds.Ack e = absurd (true≢false e)
data_kind kinds.Read e = absurd (true≢false e)
data_kind kinds.Enter e = absurd (true≢false e)
data_kind kinds.Leave e = absurd (true≢false e)
data_kind kinds.Data e = refl

-- what a template has to be
pub record Fit (t : Telegram) : Type 0 where
  pub kind : t.kind ≡ kinds.Data
  pub method : ltb 0 t.method ≡ false
  pub header : unwritten_header t.header ≡ false
  pub count : ltb 7 t.count ≡ false
  pub right : any wrong_entry (entries_of t) ≡ false
  pub once : repeats [] (entries_of t) ≡ false
  pub whole : missing (entries_of t) ≡ false
  pub past : any used_entry (drop t.count t.entries) ≡ false

pub fit : (t : Telegram) → unfit_template t ≡ false → Fit t
unfolding unwritable
fit t e =
    let a = neither (not (is_data_kind t.kind)) (unwritable t) (neither (not (is_data_kind t.kind) || unwritable t) (lacks energy t.entries)
    (neither (not (is_data_kind t.kind) || unwritable t || lacks energy t.entries) (lacks volume t.entries) e).0).0 in
    let k = data_kind t.kind a.0 in
    let w = neither (ltb 0 t.method) (wrong_data t) (sym (ap (λ (x : Kind). wrong_for x t) k) ∙ a.1) in
    let r = any wrong_entry (entries_of t) in
    let o = repeats [] (entries_of t) in
    let m = missing (entries_of t) in
    let h = unwritten_header t.header in
    let n = ltb 7 t.count in
    let p5 = neither (h || n || r || o || m) (any used_entry (drop t.count t.entries)) w.1 in
    let p4 = neither (h || n || r || o) m p5.0 in
    let p3 = neither (h || n || r) o p4.0 in
    let p2 = neither (h || n) r p3.0 in
    let p1 = neither h n p2.0 in
    record { kind = k; method = w.0; header = p1.0; count = p1.1; right = p2.1; once = p3.1; whole = p4.1; past = p5.1 }

-- The totals of a template are within the limit, ..
pub pair_within : (t : Telegram) → unfit_template t ≡ false → Within (pair_in t.entries)
pair_within t e =
    let f = fit t e in
    record {
      volume = total_within volume t.count t.entries f.right f.past;
      energy = total_within energy t.count t.entries f.right f.past;
    }

-- .. and stay there; ..
pub plus_within : (p : Pair) (v e : ℕ) → overflows p v e ≡ false → Within (plus p v e)
plus_within p v e fits =
    let both = neither (passes p.volume v) (passes p.energy e) fits in
    record { volume = pass_fits p.volume v both.0; energy = pass_fits p.energy e both.1 }

-- .. it stays a template with another access number; ..
pub raised_fit : (t : Telegram) → unfit_template t ≡ false → unfit_template (raised t) ≡ false
unfolding unwritable
raised_fit t e =
    let k = (fit t e).kind in
    ap (λ (u : Bool). not (is_data_kind t.kind) || u || lacks energy t.entries || lacks volume t.entries)
    (ap (λ (x : Kind). wrong_for x (raised t)) k ∙ sym (ap (λ (x : Kind). wrong_for x t) k))
    ∙ e

-- .. and what is answered with it can be written.
pub data_written : (own : ℕ) (p : Pair) (t : Telegram) → unfit_template t ≡ false → Within p → unwritable (data_with own p t) ≡ false
unfolding unwritable
data_written own p t e within =
    let n = t.count in
    let f = fit t e in
    let cut : take n (filled p t.entries) ≡ filled p (take n t.entries) = sym (map_take (filled_entry p) n t.entries) in
    let right : any wrong_entry (take n (filled p t.entries)) ≡ false = ap (any wrong_entry) cut
    ∙ any_kept wrong_entry (filled_entry p) (wrong_filled p within) (take n t.entries) f.right in
    let once : repeats [] (take n (filled p t.entries)) ≡ false = ap (repeats []) cut ∙ repeats_filled p [] (take n t.entries) ∙ f.once in
    let whole : missing (take n (filled p t.entries)) ≡ false = ap missing cut ∙ missing_filled p (take n t.entries) ∙ f.whole in
    let past : any used_entry (drop n (filled p t.entries)) ≡ false = ap (any used_entry) (sym (map_drop (filled_entry p) n t.entries))
    ∙ any_kept used_entry (filled_entry p) (used_filled p) (drop n t.entries) f.past in
    ap (λ (x : Kind). wrong_for x (data_with own p t)) f.kind ∙ rw (f.method, f.header, f.count, right, once, whole, past)

-- each field stays in the range of its type
pub raised_sized : (t : Telegram) → Sized t → Sized (raised t)
raised_sized t z =
    let f = z.header in
    record {
      address = z.address;
      header = record { version = f.version; access = go t.header.access f.access; status = f.status };
      places = z.places;
    }
  where
    go : (n : ℕ) → n < 256 → next_access n < 256
    go n h = by_test (eqb n 255) (λ e. rw e (lit< tt)) (λ e. rw e (omega (arith, eqb-false n 255 e)))

pub data_sized : (own : ℕ) (p : Pair) (t : Telegram) → own < 256 → Sized t → Sized (data_with own p t)
data_sized own p t small z = record { address = small; header = z.header; places = length-map t.entries (filled_entry p) ∙ z.places }
