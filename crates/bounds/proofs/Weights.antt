-- Laws of levels and weights, and what one message more or less does to the weights and to the number of REQUESTs.
use Rattle.std.specs.Prelude.{◌≡◌, ℕ, ◌+◌, ◌*◌, ◌≤◌, ◌<◌, eqb, length, get_or}
use Rattle.std.proofs.Common.{ap, eq-eqb, ne_eqb}
use mathlib.Core.List.{List, [], ◌∷◌, ◌++◌}
use native.Mathlib.Omega.{arith}
use Rattle.std.proofs.lemmas.Bool.{eqb-false}
use Rattle.base.specs.Choice.{split}
use Rattle.base.specs.Sums.{one}
use Rattle.base.specs.Lists.{total, count, remove, total-append, total-snoc, total-remove}
use Rattle.modes.specs.Codes.{IR}
use Rattle.room.specs.declared.Room.{Room}
use Rattle.table.specs.declared.Wire.{Wire}
use Rattle.table.specs.declared.Message.{Message}
use Rattle.table.specs.declared.Message.TheVariants as msg
use Rattle.table.specs.Tables.{no_wire}
use Rattle.facts.specs.Names.{is_naming, is_request}
use Rattle.facts.specs.Wires.{wire, leaving_sent}
use Rattle.facts.specs.Cases.{leaving-either}
use Rattle.bounds.specs.Bounds.{level, weight}

-- no mode has a level above 2
pub level-le : (m : ℕ) → level m ≤ 2
unfolding level
level-le m =
    split (eqb m 0) (λ e. rw e (omega arith))
    (λ e. split (eqb m IR) (λ f. rw (e, f) (omega arith)) (λ f. rw (e, f) (omega arith)))

pub level-none : level 0 ≡ 0
unfolding level
level-none = omega arith

-- the level falls where a mode becomes weaker, and none or IR
pub level-falls : (a b : ℕ) → a ≤ IR → a < b → level a < level b
unfolding level
level-falls a b low less =
    split (eqb a 0)
    (λ e. rw (e, ne_eqb b 0 (λ f. omega arith)) (split (eqb b IR) (λ f. rw f (omega arith)) (λ f. rw f (omega arith))))
    (λ e.
    let some = eqb-false a 0 e in
    rw (e, eq-eqb a IR (omega (arith, some)), ne_eqb b 0 (λ f. omega arith), ne_eqb b IR (λ f. omega (arith, some))) (omega arith))

-- the weight of a list of messages, and its number of REQUESTs
abbrev pub weights : List Wire → ℕ
weights messages = total (λ w. weight w.message) messages

abbrev pub requests : List Wire → ℕ
requests messages = count (λ w. is_request w.message) messages

-- a message weighs 1 at least, and at most 2 more if it names a room
weight-some : (m : Message) → 1 ≤ weight m
unfolding weight
weight-some msg.Nothing = omega arith
weight-some (msg.Request o m idle) = omega arith
weight-some (msg.Grant m l) = omega arith
weight-some (msg.Token m rest l) = omega arith
weight-some (msg.Reduce l m) = omega arith

weight-naming : (m : Message) → weight m ≤ 1 + 2 * one (is_naming m)
unfolding weight is_naming
weight-naming msg.Nothing = omega arith
weight-naming (msg.Request o m idle) = omega arith
weight-naming (msg.Grant m l) = omega arith
weight-naming (msg.Token m rest l) = omega arith
weight-naming (msg.Reduce l m) = omega arith

-- a REQUEST names a room
request-naming : (m : Message) → one (is_request m) ≤ one (is_naming m)
unfolding is_request is_naming
request-naming msg.Nothing = omega arith
request-naming (msg.Request o m idle) = omega arith
request-naming (msg.Grant m l) = omega arith
request-naming (msg.Token m rest l) = omega arith
request-naming (msg.Reduce l m) = omega arith

pub length-weights : (l : List Wire) → length l ≤ weights l
unfolding total
length-weights [] = omega arith
length-weights (w ∷ l) = omega (arith, weight-some w.message, length-weights l)

pub weights-naming : (l : List Wire) → weights l ≤ length l + 2 * count (λ w. is_naming w.message) l
unfolding total
weights-naming [] = omega arith
weights-naming (w ∷ l) = omega (arith, weight-naming w.message, weights-naming l)

pub requests-naming : (l : List Wire) → requests l ≤ count (λ w. is_naming w.message) l
unfolding total
requests-naming [] = omega arith
requests-naming (w ∷ l) = omega (arith, request-naming w.message, requests-naming l)

-- one message more
module _ (l : List Wire) (a b : ℕ) (m : Message) where
  pub weights-sent : weights (l ++ (wire a b m ∷ [])) ≡ weights l + weight m
  weights-sent = total-snoc (λ w. weight w.message) l (wire a b m)

  pub requests-sent : requests (l ++ (wire a b m ∷ [])) ≡ requests l + one (is_request m)
  requests-sent = total-snoc (λ w. one (is_request w.message)) l (wire a b m)

-- one message less
module _ (l : List Wire) (k a b : ℕ) (m : Message) (inside : k < length l) (there : get_or l k no_wire ≡ wire a b m) where
  pub weights-taken : weights (remove k l) + weight m ≡ weights l
  weights-taken = omega (
    arith,
    total-remove (λ w. weight w.message) l k no_wire inside,
    ap (λ (w : Wire). weight w.message) there,
  )

  pub requests-taken : requests (remove k l) + one (is_request m) ≡ requests l
  requests-taken = omega (
    arith,
    total-remove (λ w. one (is_request w.message)) l k no_wire inside,
    ap (λ (w : Wire). one (is_request w.message)) there,
  )

-- what goes to the old lender: one REDUCE at most
module _ (l : List Wire) (me : ℕ) (r : Room) (a : ℕ) where
  pub weights-leaving : weights (l ++ leaving_sent me r a) ≤ weights l + 1
  unfolding total weight
  weights-leaving = omega (
    arith,
    total-append (λ w. weight w.message) l (leaving_sent me r a),
    leaving-either me r a (λ (s : List Wire). weights s ≤ 1) (omega arith) (λ e. omega arith),
  )

  pub requests-leaving : requests (l ++ leaving_sent me r a) ≡ requests l
  unfolding total is_request
  requests-leaving = omega (
    arith,
    total-append (λ w. one (is_request w.message)) l (leaving_sent me r a),
    leaving-either me r a (λ (s : List Wire). requests s ≡ 0) (omega arith) (λ e. omega arith),
  )
