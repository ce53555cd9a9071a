-- A message taken out of an array and others put behind: what the copies leave is the list that the rules give.
use Rattle.std.specs.List.{copy_within}
use Rattle.std.proofs.Common.{◌≡◌, ℕ, zero, suc, ◌+◌, ◌-◌, ◌<◌, ◌≤◌, List, [], ◌∷◌, ◌++◌, length, set, take, drop, refl, sym, ◌∙◌, ap, arith, append-nil, append_assoc, length-append, length-take-le, Option, Some, None, IfSome}
use Rattle.std.proofs.lemmas.List.{take_at, drop_at, drop-drop, length-replicate, take-append-drop}
use Rattle.std.proofs.Math.ListN.{replicate}
use borrow.Rule.Slice.PartMut.{put_mid}
use Rattle.base.specs.Arrays.{padded}
use Rattle.base.specs.Lists.{remove, length-remove}
use Rattle.base.specs.Shifts.{moved-up}
use Rattle.table.specs.declared.Table.{Table}
use Rattle.table.specs.declared.Wire.{Wire}
use Rattle.table.specs.Limits.{wire_limit}
use Rattle.table.specs.Tables.{no_wire, messages_of}
use Rattle.step.specs.Writes.{rest_of, without, left, Takes, wires_after}

-- a message taken out of the first count: those that are left, laid into their places
module _ (ws : List Wire) (count : ℕ) (taken : Option ℕ) (low : count ≤ length ws) where
  every : length (take count ws) ≡ count
  every = length-take-le count ws low

  pub take-one : (place : ℕ) → taken ≡ Some place → IfSome taken (λ p. p < count)
      → (moved : List Wire) → moved ≡ copy_within ws (place + 1) count place
      → set moved (count - 1) no_wire ≡ padded count no_wire (rest_of (take count ws) taken) ++ drop count ws
  unfolding padded
  take-one place e there moved h =
      let near : place < count = rw e at there in
      let one : 1 ≡ count - length (remove place (take count ws)) = omega (arith, every, length-remove (take count ws) place (omega (arith, every))) in
      rw e
      (moved-up ws count place no_wire near low moved h ∙ sym (append_assoc (remove place (take count ws)) (no_wire ∷ []) (drop count ws))
      ∙ ap (λ (n : ℕ). (remove place (take count ws) ++ replicate n no_wire) ++ drop count ws) one)

  pub take-none : taken ≡ None → ws ≡ padded count no_wire (rest_of (take count ws) taken) ++ drop count ws
  unfolding padded
  take-none e =
      let none : 0 ≡ count - length (take count ws) = omega (arith, every) in
      rw e
      (sym (take-append-drop count ws) ∙ ap (λ (l : List Wire). l ++ drop count ws) (sym (append-nil (take count ws)))
      ∙ ap (λ (n : ℕ). (take count ws ++ replicate n no_wire) ++ drop count ws) none)

-- a part overwritten, right behind what is known
behind : {A : Type 0} (front rest part : List A) (n k : ℕ) → length front ≡ n → put_mid n k (front ++ rest) part ≡ front ++ (part ++ drop k rest)
behind front rest part n k e = rw (take_at front rest n e, drop_at front rest n e) refl

-- what is written over blanks and past them
over : {A : Type 0} (s gap : ℕ) (d : A) (rest : List A) → drop s (replicate gap d ++ rest) ≡ replicate (gap - s) d ++ drop (s - gap) rest
over zero gap d rest =
    let all : gap ≡ gap - zero = omega arith in
    let none : zero ≡ zero - gap = omega arith in
    λ i. replicate (all i) d ++ drop (none i) rest
over (suc s) zero d rest =
    let none : zero ≡ zero - suc s = omega arith in
    let all : suc s ≡ suc s - zero = omega arith in
    λ i. replicate (none i) d ++ drop (all i) rest
over (suc s) (suc gap) d rest =
    let left : gap - s ≡ suc gap - suc s = omega arith in
    let past : s - gap ≡ suc s - suc gap = omega arith in
    over s gap d rest ∙ (λ i. replicate (left i) d ++ drop (past i) rest)

module _ (t : Table) (me : ℕ) (taken : Option ℕ) (k : Takes t me taken) (long : length t.wires ≡ wire_limit) where
  pub all : length (messages_of t) ≡ t.count
  all = length-take-le t.count t.wires (omega (arith, long, k.count))

  pub length-without : length (without t taken) ≡ left t.count taken
  length-without = go taken k.low
    where
      go : (taken : Option ℕ) → IfSome taken (λ p. p < t.count) → length (without t taken) ≡ left t.count taken
      go None low = all
      go (Some place) low = omega (arith, all, length-remove (messages_of t) place (omega (arith, all)))

  pub fewer : left t.count taken ≤ t.count
  fewer = go taken
    where
      go : (taken : Option ℕ) → left t.count taken ≤ t.count
      go None = omega arith
      go (Some place) = omega arith

  -- the wires with the message that is taken gone
  abbrev pub closed : List Wire
  closed = padded t.count no_wire (without t taken) ++ drop t.count t.wires

  closed-is : closed ≡ without t taken ++ (replicate (t.count - left t.count taken) no_wire ++ drop t.count t.wires)
  unfolding padded
  closed-is =
      append_assoc (without t taken) _ _
      ∙ ap (λ (n : ℕ). without t taken ++ (replicate (t.count - n) no_wire ++ drop t.count t.wires)) length-without

  -- what was sent is written behind those that are left
  module _ (sent : List Wire) where
    abbrev kept : ℕ
    kept = left t.count taken

    abbrev free : ℕ
    free = t.count - left t.count taken

    abbrev many : ℕ
    many = left t.count taken + length sent - left t.count taken

    -- how many messages there are then
    pub total : length (without t taken ++ sent) ≡ left t.count taken + length sent
    total = length-append (without t taken) sent ∙ ap (λ (n : ℕ). n + length sent) length-without

    length-used : length (padded t.count no_wire (without t taken ++ sent)) ≡ t.count + (many - free)
    unfolding padded
    length-used =
        let blank = t.count - length (without t taken ++ sent) in
        omega (arith, total, fewer, length-append (without t taken ++ sent) (replicate blank no_wire), length-replicate blank no_wire)

    pub spliced : put_mid kept many closed sent ≡ wires_after t taken sent
    unfolding wires_after padded
    spliced =
        let blank : free - many ≡ t.count - length (without t taken ++ sent) = omega (arith, total) in
        let rest : drop (many - free) (drop t.count t.wires) ≡ drop (length (padded t.count no_wire (without t taken ++ sent))) t.wires
        = drop-drop (many - free) t.count t.wires ∙ ap (λ (n : ℕ). drop n t.wires) (sym length-used) in
        ap (λ (l : List Wire). put_mid kept many l sent) closed-is ∙ behind (without t taken) (replicate free no_wire ++ drop t.count t.wires) sent kept many length-without
        ∙ ap (λ (l : List Wire). without t taken ++ (sent ++ l)) (over many free no_wire (drop t.count t.wires))
        ∙ (λ i. without t taken ++ (sent ++ (replicate (blank i) no_wire ++ rest i))) ∙ sym (append_assoc (without t taken) sent _)
        ∙ sym (append_assoc (without t taken ++ sent) _ _)
