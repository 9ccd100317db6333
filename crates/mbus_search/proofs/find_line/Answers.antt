-- `mbus_search::find_line` meets its contract: no line begins at a place before, and at a place only one length can be.
use Rattle.std.specs.Prelude.{Err}
use Rattle.std.proofs.Common.{◌≡◌, ℕ, ◌-◌, take, drop, sym, refl, ap, ◌∙◌, arith, length-take-le}
use lib.ListN
use lib.ListN.{length-replicate}
use Rattle.base_rules.specs.Answers.{refusal}
use Rattle.base_rules.specs.Shown.{refused_by}
use Rattle.mbus_search.specs.Searching.{length_here}
use Rattle.mbus_search.proofs.Laws.Walks.{searched_none, searched_next, searched_all, searched_hit, walked_none, walked_next}
use Rattle.mbus_search.proofs.Laws.Walks.{walked_room, walked-refused, walked_unsound, walked-hit, walked_no, walked_open, walked_on, walked_places}
use Rattle.mbus_search.proofs.Laws.Walks.{ended_inside}
use Rattle.mbus_search.proofs.find_line.Goals.{Joined-length-gt0, then-length-gt0+then-ended+else-loop-i-test, then-length-gt0+then-ended+then-loop-i-test+then-c-counts_odd, then-length-gt0+else-ended, else-length-gt0}
use Rattle.mbus_search.proofs.find_line.Goals as goal

-- the four ways past a place at which no line begins
none_yet : (c : Joined-length-gt0)
    → (c.if-length-gt0.found ≡ Err (refused_by 18))
    × (length_here
    (take (ListN.length c.args.capture.now - c.places.place)
    (drop c.places.place c.args.capture.now)) ≡ refusal 18)
    × (ListN.length c.if-length-gt0.bytes ≡ 261)
none_yet c =
    let capture = c.args.capture.now in
    let rest = take (ListN.length capture - c.places.place) (drop c.places.place capture) in
    elim c.if-length-gt0.branch [
      | then-length-gt0+then-ended+else-loop-i-test w ↦ (
        w.found-is ∙ w.loop-i.invariant.nothing,
        w.loop-i.invariant.none (omega (arith, w.loop-i-test.false)),
        ap ListN.length w.bytes-is ∙ w.loop-i.invariant.gathers.places,
      )
      | then-length-gt0+then-ended+then-loop-i-test+then-c-counts_odd w ↦ (
        w.found-is ∙ w.loop-i.invariant.nothing,
        walked_unsound w.loop-i.invariant (walked_on w.loop-i.invariant w.loop-i-test.true) w.counts_odd.ensures w.if-c-counts_odd.true,
        ap ListN.length w.bytes-is ∙ w.loop-i.invariant.gathers.places,
      )
      | then-length-gt0+else-ended w ↦ (
        w.found-is ∙ c.places.invariant.0.nothing,
        walked_open rest c.left_by-length.ensures w.is_ended-ended.ensures w.if-ended.false,
        ap ListN.length w.bytes-is ∙ c.places.invariant.1,
      )
      | else-length-gt0 w ↦ (
        w.found-is ∙ c.places.invariant.0.nothing,
        walked_no rest c.left_by-length.ensures (λ p. omega (arith, w.if-length-gt0.false)),
        ap ListN.length w.bytes-is ∙ c.places.invariant.1,
      )
    ]

pub places-init : goal.places-init
places-init c = (searched_none, length-replicate {A = ℕ} 261 0)

pub loop-i-init : goal.loop-i-init
loop-i-init c =
    let capture = c.args.capture.now in
    let rest = take (ListN.length capture - c.places.place) (drop c.places.place capture) in
    walked_none c.left_by-length.ensures (ended_inside rest c.left_by-length.ensures c.is_ended-ended.ensures c.if-ended.true) c.places.invariant.0.nothing
    c.places.invariant.1

pub bounds-rest-i : goal.bounds-rest-i
bounds-rest-i c = omega (arith, c.loop-i.invariant.room)

pub bounds-bytes-i : goal.bounds-bytes-i
bounds-bytes-i c =
    walked_room c.loop-i.invariant (walked_on c.loop-i.invariant c.loop-i-test.true)

pub overflow_add-i : goal.overflow_add-i
overflow_add-i c =
    omega (arith, c.loop-i.invariant.room)

pub slice_bounds-bytes-end : goal.slice_bounds-bytes-end
slice_bounds-bytes-end c =
    walked_places c.loop-i.invariant _

pub slice_bounds-is_accepted-end : goal.slice_bounds-is_accepted-end
slice_bounds-is_accepted-end c =
    sym (length-take-le _ _ (walked_places c.loop-i.invariant _))

pub loop-i-preserved-else-accepted : goal.loop-i-preserved-else-accepted
loop-i-preserved-else-accepted c =
    rw c.wrapping_add_u8-sum.ensures.value
    (walked-refused c.loop-i.invariant
    (walked_on c.loop-i.invariant c.loop-i-test.true) refl
    c.counts_odd.ensures c.if-c-counts_odd.false
    c.if-i-length.true
    (rw c.wrapping_add_u8-sum.ensures.value at c.is_accepted-accepted.ensures) c.if-accepted.false)

pub loop-i-preserved : goal.loop-i-preserved
loop-i-preserved c =
    rw c.wrapping_add_u8-sum.ensures.value
    (walked_next c.loop-i.invariant (walked_on c.loop-i.invariant c.loop-i-test.true) refl
    c.counts_odd.ensures c.if-c-counts_odd.false c.if-i-length.false)

pub places-preserved : goal.places-preserved
places-preserved c = (
  searched_next c.places.invariant.0 (none_yet (goal.at.places-preserved c).Joined-length-gt0).0 c.places-test.true
      (none_yet (goal.at.places-preserved c).Joined-length-gt0).1,
  (none_yet (goal.at.places-preserved c).Joined-length-gt0).2,
)

pub returns-after-places : goal.returns-after-places
returns-after-places c = searched_all c.places.invariant.0 c.places-test.false

pub returns-then-accepted : goal.returns-then-accepted
returns-then-accepted c =
    searched_hit c.places.invariant.0
    c.places-test.true _
    (walked-hit c.loop-i.invariant
    (walked_on c.loop-i.invariant c.loop-i-test.true) refl
    c.counts_odd.ensures c.if-c-counts_odd.false
    c.if-i-length.true
    (rw c.wrapping_add_u8-sum.ensures.value at c.is_accepted-accepted.ensures) c.if-accepted.true)
