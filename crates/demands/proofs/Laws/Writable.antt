-- Data that stands field by field can be written, and is read.
use Prim.Native.Nat.{ℕ, suc, ◌+◌, ◌-◌, ◌*◌, ◌/◌, ◌%◌, ◌^◌, ◌<◌}
use mathlib.Core.Bool.{true, false, not, ◌&&◌, ◌||◌, or-true, or-false, or_assoc, true≢false}
use mathlib.Core.List.{List, [], ◌∷◌, ◌++◌}
use mathlib.Core.Logic.{inl, inr}
use mathlib.Core.Path.{◌≡◌, refl, sym, ap, ◌∙◌}
use native.Mathlib.Omega.{arith}
use borrow.Author.Tests.{ne_eqb, eqb-false, lt-ltb, le-leb, ltb-true, ltb-false}
use lib.Dec.{eqb, ltb}
use lib.IntN.{ℤ, pos, negsuc}
use lib.ListN.{length, replicate, length-append, length-replicate}
use Rattle.base_rules.specs.Lists.{any}
use Rattle.base_rules.proofs.Laws.ListLaws.{any_snoc}
use Rattle.base_rules.proofs.Laws.Tests.{by_test, neither}
use Rattle.base_calendar.specs.Months.{days_in}
use Rattle.mbus_rules.specs.declared.Entry.{Entry}
use Rattle.mbus_rules.specs.declared.Header.{Header}
use Rattle.mbus_rules.specs.declared.Moment.{Moment}
use Rattle.mbus_rules.specs.declared.Value.{Value}
use Rattle.mbus_rules.specs.declared.Value.TheVariants.{Number, Time, Binary}
use Rattle.mbus_rules.specs.Entries.{may_fall, seen, missing}
use Rattle.base_numbers.specs.TwosComplement.{below_zero, fits_binary}
use Rattle.mbus_rules.specs.Signs.{fits_signed}
use Rattle.mbus_rules.specs.Headers.{letter, maker_named, heat_meter}
use Rattle.mbus_rules.specs.Moments.{date_exists, time_exists, weekday_exists}
use Rattle.mbus_rules.specs.Quantities.{quantity_of, flow, inlet, outlet, time, unknown, is_time, paired, width_of, is_packed, is_binary}
use Rattle.mbus_rules.specs.TelegramSizes.{Sized}
use Rattle.mbus_rules.specs.Telegrams.{blank_entry, data_of}
use Rattle.mbus_rules.specs.Writing.{wrong_value, wrong_entry, unwritten_header, repeats}
use Rattle.mbus_rules.proofs.Laws.RoundTrip.{enough_places, write_then_read}
use Rattle.mbus_rules.proofs.Laws.RowLaws.{time_quantity, may_fall_three, missing_five, low_packed, high_binary}
use Rattle.mbus_rules.proofs.Laws.TelegramLaws.{data_writable}
use Rattle.demands.specs.CjtTables.{OneOf}
use Rattle.demands.specs.Writable.{ALetter, HeaderStands, MayFall, InDigits, InBinary, MomentStands, ValueStands, EntriesStand, DataIsRead}

-- ---- the header

is_letter : (g : ℕ) → ALetter g → letter g ≡ true
is_letter g (least, most) = rw (lt-ltb 0 g least, le-leb g 26 most)

maker_named_lem : (m x y z : ℕ) → m ≡ 1024 * x + 32 * y + z → ALetter x → ALetter y → ALetter z → maker_named m ≡ true
maker_named_lem m x y z e p q r =
    let (p1, p2) = p in
    let (q1, q2) = q in
    let (r1, r2) = r in
    let top : m / 1024 ≡ x = omega arith in
    let two : m / 32 ≡ 32 * x + y = omega arith in
    let middle : m / 32 % 32 ≡ y = ap (λ (n : ℕ). n % 32) two ∙ rest x y (omega arith) in
    let low : m % 32 ≡ z = omega arith in
    rw (lt-ltb m 32768 (omega arith), top, middle, low, is_letter x p, is_letter y q, is_letter z r)
  where
    rest : (x y : ℕ) → y < 32 → (32 * x + y) % 32 ≡ y
    rest x y h = omega arith

heat_meter_lem : (t : ℕ) → OneOf (0x04 ∷ 0x0B ∷ 0x0C ∷ 0x0D ∷ []) t → heat_meter t ≡ true
unfolding any
heat_meter_lem t e = same ∙ e
  where
    same : heat_meter t ≡ (eqb t 0x04 || (eqb t 0x0B || (eqb t 0x0C || (eqb t 0x0D || false))))
    same = simp (or_assoc, or-false)

header_stands : (h : Header) → HeaderStands h → unwritten_header h ≡ false
header_stands h s =
    let (x, y, z, e, p, q, r) = s.maker in
    rw (lt-ltb h.number 100000000 s.number, maker_named_lem h.maker x y z e p q r, heat_meter_lem h.meter_type s.type)

-- ---- an entry

falls : (u : ℕ) → MayFall u → may_fall u ≡ true
falls u m = may_fall_three u ∙ go m
  where
    go : MayFall u → (eqb (quantity_of u) inlet || eqb (quantity_of u) outlet || eqb (quantity_of u) flow) ≡ true
    go (inl e) = rw e
    go (inr (inl e)) = rw e
    go (inr (inr e)) = rw e

no_time : (u : ℕ) → quantity_of u < time → is_time u ≡ false
no_time u h = sym (time_quantity u) ∙ ne_eqb (quantity_of u) time (omega arith)

not_both : (st : ℕ) → is_packed st ≡ true → is_binary st ≡ false
not_both st p = by_test (ltb st 8)
    (λ t. absurd (true≢false (sym p ∙ low_packed st (ltb-true st 8 t))))
    (λ t. high_binary st (ltb-false st 8 t))

moment_stands : (m : Moment) → MomentStands m → (date_exists m ≡ true) × (time_exists m ≡ true) × (weekday_exists m ≡ true)
moment_stands m s =
    let (first, last) = s.month in
    let (from, to) = s.day in (
      rw (
        lt-ltb m.year 100 s.year,
        lt-ltb 0 m.month first,
        lt-ltb m.month 13 (omega arith),
        lt-ltb 0 m.day from,
        le-leb m.day (days_in (2000 + m.year) m.month) to,
      ),
      rw (lt-ltb m.second 60 s.second, lt-ltb m.minute 60 s.minute, lt-ltb m.hour 24 s.hour),
      lt-ltb m.weekday 8 (omega (arith, s.weekday)),
    )

digits_right : (st u : ℕ) (n : ℤ) → is_time u ≡ false → is_binary st ≡ false → InDigits (width_of st) u n
    → (is_time u || is_binary st || not (fits_signed (width_of st) n) || below_zero n && not (may_fall u)) ≡ false
digits_right st u (pos n) t b f = rw (t, b, lt-ltb n (100 ^ width_of st) f)
digits_right st u (negsuc n) t b (f, m) = rw (t, b, lt-ltb (10 * suc n) (100 ^ width_of st) f, falls u m)

binary_right : (st u : ℕ) (n : ℤ) → is_time u ≡ false → is_binary st ≡ true → InBinary (width_of st) u n
    → (is_time u || not (is_binary st) || not (fits_binary (width_of st) n) || below_zero n && not (may_fall u)) ≡ false
binary_right st u (pos n) t b f = rw (t, b, lt-ltb (2 * n) (256 ^ width_of st) f)
binary_right st u (negsuc n) t b (f, m) = rw (t, b, le-leb (2 * suc n) (256 ^ width_of st) f, falls u m)

value_stands : (st u : ℕ) (v : Value) → ValueStands st u v → (paired st u ≡ true) × (wrong_value st u v ≡ false)
unfolding paired
value_stands st u (Number d) (sort, measured, fits) = (
  rw (no_time u measured, sort, lt-ltb (quantity_of u) unknown (omega arith)),
  digits_right st u d.count (no_time u measured) (not_both st sort) fits,
)
value_stands st u (Binary b) (sort, measured, fits) = (
  rw (no_time u measured, sort, lt-ltb (quantity_of u) unknown (omega arith), or-true),
  binary_right st u b.count (no_time u measured) sort fits,
)
value_stands st u (Time m) (six, unit, stands) =
    let (date, hour, weekday) = moment_stands m stands in
    (rw (unit, six), rw (unit, date, hour, weekday))

entry_stands : (e : Entry) → ValueStands e.structure e.unit e.value → wrong_entry e ≡ false
entry_stands e s = let (pair, right) = value_stands e.structure e.unit e.value s in rw (pair, right)

-- ---- all entries

entries_right : (es : List Entry) → EntriesStand es → any wrong_entry es ≡ false
unfolding any
entries_right [] s = refl
entries_right (e ∷ es) (first, apart, rest) = rw (entry_stands e first, entries_right es rest)

-- no entry has a quantity of those before it
abbrev Unseen : List Entry → List Entry → Type 0
Unseen done [] = Unit {0}
Unseen done (e ∷ es) = (seen (quantity_of e.unit) done ≡ false) × Unseen done es

eqb_turned : (a b : ℕ) → eqb a b ≡ false → eqb b a ≡ false
eqb_turned a b e = let n = eqb-false a b e in ne_eqb b a (λ z. n (sym z))

unseen_more : (done : List Entry) (e : Entry) (es : List Entry) → Unseen done es → seen (quantity_of e.unit) es ≡ false → Unseen (done ++ (e ∷ [])) es
unfolding any
unseen_more done e [] u n = tt
unseen_more done e (x ∷ es) (first, rest) n =
    let both = neither (eqb (quantity_of x.unit) (quantity_of e.unit)) (seen (quantity_of e.unit) es) n in (
      any_snoc (λ (y : Entry). eqb (quantity_of y.unit) (quantity_of x.unit)) done e
          ∙ rw (first, eqb_turned (quantity_of x.unit) (quantity_of e.unit) both.0),
      unseen_more done e es rest both.1,
    )

once : (done es : List Entry) → EntriesStand es → Unseen done es → repeats done es ≡ false
unfolding repeats
once done [] s u = refl
once done (e ∷ es) (first, apart, rest) (new, others) = rw new (once (done ++ (e ∷ [])) es rest (unseen_more done e es others apart))

none_yet : (es : List Entry) → Unseen [] es
unfolding any
none_yet [] = tt
none_yet (e ∷ es) = (refl, none_yet es)

pub data_is_read : DataIsRead
data_is_read a h es places small header few stand with-energy with-volume with-inlet with-outlet with-time room =
    let whole : missing es ≡ false = missing_five (λ q. seen q es) ∙ rw (with-energy, with-volume, with-inlet, with-outlet, with-time) in
    let writable = data_writable a h es (header_stands h header) (entries_right es stand) (once [] es stand (none_yet es)) whole few in
    let (version, access, status) = header.bytes in
    let seven : length (es ++ replicate (7 - length es) blank_entry) ≡ 7 =
    length-append es (replicate (7 - length es) blank_entry) ∙ rw (length-replicate (7 - length es) blank_entry) (omega arith) in
    let sized : Sized (data_of a h es) =
    record { address = small; header = record { version = version; access = access; status = status }; places = seven } in
    (enough_places (data_of a h es) places writable room, write_then_read (data_of a h es) sized writable)
