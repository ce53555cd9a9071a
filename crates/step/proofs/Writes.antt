-- A plan written into a table is what the rules leave.
use Rattle.std.proofs.Common.{◌≡◌, ℕ, ◌+◌, ◌-◌, ◌≤◌, List, ◌++◌, length, set, drop, sym, ◌∙◌, ap, arith, append_assoc, length-append, length-take-le}
use Rattle.std.proofs.lemmas.List.{take_all, drop-replicate, length-replicate, replicate-append-replicate}
use Rattle.std.proofs.Math.ListN.{replicate}
use Rattle.std.proofs.Math.Seq.{drop-append-add}
use borrow.Rule.Slice.PartMut.{put_mid}
use Rattle.base.specs.Arrays.{padded}
use Rattle.room.specs.declared.Room.{Room}
use Rattle.table.specs.declared.Table.{Table}
use Rattle.table.specs.declared.Wire.{Wire}
use Rattle.table.specs.declared.Queued.{Queued}
use Rattle.table.specs.Limits.{queue_limit, wire_limit}
use Rattle.table.specs.Tables.{no_wire, no_queued, messages_of}
use Rattle.rules.specs.Step.{after}
use Rattle.plan.specs.Plans.{Planned}
use Rattle.step.specs.Writes.{without, left, Takes, places_of, wires_after, written_of}
use Rattle.step.proofs.Splice.{closed, spliced, total}

-- a list in an array that another was laid into: what is behind the places that are used is filler
over-laid : {A : Type 0} (k old : ℕ) (d : A) (l m : List A) → length m ≡ old → old ≤ k → length l ≤ k
    → padded old d l ++ drop (length (padded old d l)) (padded k d m) ≡ padded k d l
unfolding padded
over-laid {A = A} k old d l m size low fits =
    let blank = old - length l in
    let used : length (l ++ replicate blank d) ≡ length m + (length l + blank - length m)
    = omega (arith, length-append l (replicate blank d), length-replicate blank d, size) in
    let rest = length l + blank - length m in
    let all : blank + (k - length m - rest) ≡ k - length l = omega (arith, size) in
    ap (λ (n : ℕ). (l ++ replicate blank d) ++ drop n (m ++ replicate (k - length m) d)) used
    ∙ ap (λ (r : List A). (l ++ replicate blank d) ++ r) (drop-append-add m (replicate (k - length m) d) rest ∙ drop-replicate rest (k - length m) d)
    ∙ append_assoc l _ _ ∙ ap (λ (r : List A). l ++ r) (replicate-append-replicate blank (k - length m - rest) d ∙ ap (λ (n : ℕ). replicate n d) all)

-- the table that the code leaves, from the parts that it writes
module _ (t : Table) (p : Planned) (k : Takes t p.me p.taken) (long : length t.wires ≡ wire_limit)
    (ws : List Wire) (e : ws ≡ closed t p.me p.taken k long)
    (room : Room) (r : room ≡ p.done.room) (queue : List Queued) (q : queue ≡ p.done.queue) (places : List Queued) (l : places ≡ places_of queue)
    (kept : ℕ) (n : kept ≡ left t.count p.taken) (sent : List Wire) (s : sent ≡ p.done.sent) (part : List Wire) (o : part ≡ sent) where
  pub written_is : record {
    n = t.n;
    rooms = set t.rooms p.me room;
    queue = places;
    queued = length queue;
    wires = put_mid kept (kept + length sent - kept) ws part;
    count = kept + length sent;
  }
      ≡ written_of t p
  unfolding written_of
  written_is =
      let wires = (λ i. put_mid (n i) (n i + length (s i) - n i) (e i) ((o ∙ s) i)) ∙ spliced t p.me p.taken k long p.done.sent in
      let laid = l ∙ ap places_of q in
      λ i. record {
        n = t.n;
        rooms = set t.rooms p.me (r i);
        queue = laid i;
        queued = length (q i);
        wires = wires i;
        count = n i + length (s i);
      }

-- it is the table after the work, where the places past those in use were blank
pub written-writes : (t : Table) (p : Planned) (k : Takes t p.me p.taken) → length t.wires ≡ wire_limit
    → left t.count p.taken + length p.done.sent ≤ wire_limit → t.wires ≡ padded wire_limit no_wire (messages_of t)
    → p.done.me ≡ p.me → length p.done.queue ≤ queue_limit → written_of t p ≡ after t (without t p.taken) p.done
unfolding written_of after wires_after places_of
written-writes t p k long room blank own few =
    let messages = without t p.taken ++ p.done.sent in
    let count : left t.count p.taken + length p.done.sent ≡ length messages = sym (total t p.me p.taken k long p.done.sent) in
    let queue : places_of p.done.queue ≡ padded queue_limit no_queued p.done.queue
    = ap (padded queue_limit no_queued) (take_all queue_limit p.done.queue few) in
    let used = length (padded t.count no_wire messages) in
    let wires : wires_after t p.taken p.done.sent ≡ padded wire_limit no_wire messages
    = ap (λ (ws : List Wire). padded t.count no_wire messages ++ drop used ws) blank
    ∙ over-laid wire_limit t.count no_wire messages (messages_of t) (length-take-le t.count t.wires (omega (arith, long, k.count))) k.count
    (omega (arith, count, room)) in
    let rooms = ap (λ (x : ℕ). set t.rooms x p.done.room) (sym own) in
    λ i. record {
      n = t.n;
      rooms = rooms i;
      queue = queue i;
      queued = length p.done.queue;
      wires = wires i;
      count = count i;
    }
