-- Proofs of the statements of specs/Settled.
use Prim.Native.Nat.{ℕ}
use mathlib.Core.List.{List}
use mathlib.Core.Path.{sym, ◌∙◌}
use Rattle.std.specs.Prelude.{Ok, Err}
use Rattle.base_rules.specs.Answers.{Answer}
use Rattle.demands.specs.Settled.{Equation, TwoEquations, WritingSettled, UnmarkingSettled, AddingSettled, SweepingSettled, TurningSettled}
use Rattle.demands.specs.Settled.{SalvagingSettled, ListingSettled, DrawingSettled, PuttingSettled, LeavesSettled, UnmarkSettled, ExchangeHeardSettled}
use Rattle.demands.specs.Settled.{MeterHeardSettled, GivesSettled, LengthSettled, AddSettled, SweepSettled, ListSettled, PictureSettled, SalvageSettled}
use Rattle.demands.specs.Settled.{VerdictsSettled, WordsSettled, StretchSettled, EitherSettled, HandsSettled}

module _ {R : Type 0} (a : R) where
  pub equation : Equation a
  equation x y p q = p ∙ sym q

module _ {R L : Type 0} (a : R) (b : L) where
  pub two_equations : TwoEquations a b
  two_equations x y p q i = (equation a x.0 y.0 p.0 q.0 i, equation b x.1 y.1 p.1 q.1 i)

pub writing_settled : WritingSettled
writing_settled t before x y p q = two_equations _ _ x y (p.answer, p.places) (q.answer, q.places)

pub unmarking_settled : UnmarkingSettled
unmarking_settled bytes before x y p q = two_equations _ _ x y (p.answer, p.left) (q.answer, q.left)

pub adding_settled : AddingSettled
adding_settled before filled k x y p q = two_equations _ _ x y (p.answers, p.leaves) (q.answers, q.leaves)

pub sweeping_settled : SweepingSettled
sweeping_settled before filled position x y p q = two_equations _ _ x y (p.answers, p.leaves) (q.answers, q.leaves)

pub turning_settled : TurningSettled
turning_settled written a before x y p q = two_equations _ _ x y (p.answer, p.left) (q.answer, q.left)

pub salvaging_settled : SalvagingSettled
salvaging_settled b before x y p q = two_equations _ _ x y (p.answer, p.left) (q.answer, q.left)

pub listing_settled : ListingSettled
listing_settled b before x y p q = two_equations _ _ x y (p.answer, p.holds) (q.answer, q.holds)

pub drawing_settled : DrawingSettled
drawing_settled b before x y p q = two_equations _ _ x y (p.answer, p.holds) (q.answer, q.holds)

pub putting_settled : PuttingSettled
putting_settled text before at x y p q = two_equations _ _ x y (p.holds, p.count) (q.holds, q.count)

module _ {A B : Type 0} (tell : A → ℕ) (written : A → List B) (a : Answer A) (before : List B) where
  pub leaves_settled : LeavesSettled tell written a before
  leaves_settled x y p q = two_equations _ _ x y (p.answer, p.left) (q.answer, q.left)

pub hands_settled : HandsSettled
hands_settled A (Ok a) before x y p q = two_equations _ _ x y p q
hands_settled A (Err e) before x y p q = two_equations _ _ x y p q

pub unmark_settled : UnmarkSettled
unmark_settled bytes before x y p q i = (
  two_equations _ _ x.0 y.0 (p.answer, p.left) (q.answer, q.left) i,
  two_equations _ _ x.1 y.1 (p.bytes_used, p.characters_made) (q.bytes_used, q.characters_made) i,
)

pub exchange_heard_settled : ExchangeHeardSettled
exchange_heard_settled a telegram before out x y p q i =
    (leaves_settled _ _ a before x.0 y.0 p.step q.step i, equation _ x.1 y.1 p.reply q.reply i)

pub meter_heard_settled : MeterHeardSettled
meter_heard_settled a t before out x y p q i =
    (leaves_settled _ _ a before x.0 y.0 p.step q.step i, equation _ x.1 y.1 p.said q.said i)

pub gives_settled : GivesSettled
gives_settled a before x y p q = two_equations _ _ x y (p.number, p.place) (q.number, q.place)

pub length_settled : LengthSettled
length_settled w before x y p q = two_equations _ _ x y (p.answer, p.left) (q.answer, q.left)

pub add_settled : AddSettled
add_settled buffer filled k x y p q i =
    (gives_settled _ filled x.0 y.0 p.gives q.gives i, equation _ x.1 y.1 p.holds q.holds i)

pub sweep_settled : SweepSettled
sweep_settled buffer filled position x y p q i =
    (gives_settled _ filled x.0 y.0 p.gives q.gives i, equation _ x.1 y.1 p.holds q.holds i)

pub list_settled : ListSettled
list_settled b out written x y p q i =
    (gives_settled _ written x.0 y.0 p.gives q.gives i, equation _ x.1 y.1 p.holds q.holds i)

pub picture_settled : PictureSettled
picture_settled b out written x y p q i =
    (gives_settled _ written x.0 y.0 p.gives q.gives i, equation _ x.1 y.1 p.holds q.holds i)

pub salvage_settled : SalvageSettled
salvage_settled b out told x y p q i =
    (leaves_settled _ _ _ told x.0 y.0 p.tells q.tells i, equation _ x.1 y.1 p.holds q.holds i)

pub verdicts_settled : VerdictsSettled
verdicts_settled a out count x y p q i =
    (leaves_settled _ _ a out x.0 y.0 p.tells q.tells i, equation _ x.1 y.1 p.counts q.counts i)

pub words_settled : WordsSettled
words_settled said out x y p q = two_equations _ _ x y (p.answer, p.holds) (q.answer, q.holds)

pub stretch_settled : StretchSettled
stretch_settled a whole x y p q = (p.bytes ∙ sym q.bytes, two_equations _ _ x.ref_ptr y.ref_ptr (p.block, p.place) (q.block, q.place))

pub either_settled : EitherSettled
either_settled mbus optical x y p q = (
  p.answer ∙ sym q.answer,
  p.stretch.characters ∙ sym q.stretch.characters,
  two_equations _ _ x.stretch.ref_ptr y.stretch.ref_ptr (p.stretch.block, p.stretch.place) (q.stretch.block, q.stretch.place),
)
