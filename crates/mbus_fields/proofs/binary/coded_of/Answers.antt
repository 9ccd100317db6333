-- `mbus_fields::binary::coded_of` meets its contract: the word holds what the bytes hold.
use Prim.Native.Nat.{ℕ, ◌-◌, ◌^◌, ◌≤◌, min}
use mathlib.Core.List.{List}
use mathlib.Core.Path.{◌≡◌, sym, ap, ◌∙◌}
use native.Mathlib.Omega.{arith}
use mir.Syntax.{w64}
use mir.Val.{to_z}
use mir.ValLaws.{to_z-of_z}
use lib.ListN.{length, take, length-take}
use Rattle.base_rules.specs.Bytes.{Bytes}
use Rattle.base_rules.proofs.Laws.ByteLaws.{bytes_each, bytes_take}
use Rattle.mbus_fields.proofs.Laws.CodeLaws.{word_inside, coded_word}
use Rattle.mbus_fields.proofs.binary.coded_of.Goals.{After-most_of-most}
use Rattle.mbus_fields.proofs.binary.coded_of.Goals as goal

-- the bytes that count, and what is known of them
abbrev bytes : After-most_of-most → List ℕ
bytes c = take 8 c.args.value.now

known : (c : After-most_of-most) → Bytes (bytes c)
known c =
    let value : List ℕ = c.args.value.now in
    bytes_take 8 value (bytes_each value (λ i. omega (arith, c.type_inv.value i)))

few : (c : After-most_of-most) → length (bytes c) ≤ 8
few c = omega (arith, length-take 8 c.args.value.now)

most : (c : After-most_of-most) → c.most_of-most.result ≡ 256 ^ length (bytes c) - 1
most c =
    let value : List ℕ = c.args.value.now in
    let cut : length (take 8 value) ≡ min (length value) 8 = omega (arith, length-take 8 value) in
    c.most_of-most.ensures ∙ sym (ap (λ (k : ℕ). 256 ^ k - 1) cut)

pub extended-requires : goal.extended-requires
extended-requires c = word_inside (bytes (goal.at.extended-requires c).After-most_of-most) (known (goal.at.extended-requires c).After-most_of-most) (few (goal.at.extended-requires c).After-most_of-most) c.number_at-word.ensures.so (most (goal.at.extended-requires c).After-most_of-most)

pub returns : goal.returns
returns c =
    let n = c.count_of-count in
    rw (to_z-of_z w64 n.result (record { sfits = n.type_inv }))
    (coded_word (bytes (goal.at.returns c).After-most_of-most) (known (goal.at.returns c).After-most_of-most) (few (goal.at.returns c).After-most_of-most) c.number_at-word.ensures.so (most (goal.at.returns c).After-most_of-most) (n.ensures ∙ ap (to_z w64) c.extended.ensures))
