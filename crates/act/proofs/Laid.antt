-- A desk's arrays stay laid: as the queue is laid out, with one more queued or sent, and with the head taken off.
use Rattle.std.specs.List.{copy_within, remove}
use Rattle.std.proofs.Common.{◌≡◌, ℕ, suc, ◌+◌, ◌-◌, ◌<◌, ◌≤◌, List, [], ◌∷◌, ◌++◌, length, length-set, length-append, set, take, drop, replicate, refl, sym, ◌∙◌, ap, arith, length-take-le}
use Rattle.std.proofs.lemmas.List.{drop_at, drop-replicate, length-replicate, take_at}
use Rattle.base.specs.Arrays.{padded, padded-set, padded-take}
use Rattle.base.specs.Lists as lists
use Rattle.base.specs.Shifts.{moved-up}
use Rattle.table.specs.declared.Queued.{Queued}
use Rattle.table.specs.declared.Wire.{Wire}
use Rattle.table.specs.Limits.{queue_limit}
use Rattle.table.specs.Tables.{no_queued, no_wire}
use Rattle.rules.specs.Work.{Work}
use Rattle.act.specs.Desk.{place_limit, out_limit, IsLaid, HasRoom}

-- the head goes, the others close up, and the place that they leave is blank
module _ {A : Type 0} (n k : ℕ) (d : A) (xs : List A) (some : 0 < k) (low : k ≤ length xs) (long : length xs ≡ n) (blank : xs ≡ padded n d (take k xs)) where
  used : length (take k xs) ≡ k
  used = length-take-le k xs low

  past : drop k xs ≡ replicate (n - k) d
  unfolding padded
  past =
      ap (drop k) blank ∙ drop_at (take k xs) (replicate (n - length (take k xs)) d) k used
      ∙ ap (λ (j : ℕ). replicate (n - j) d) used

  first-out : (l : List A) → lists.remove 0 l ≡ remove l 0
  unfolding lists.remove
  first-out [] = refl
  first-out (x ∷ l) = refl

  fewer : length (remove (take k xs) 0) + 1 ≡ k
  fewer = ap (λ (l : List A). length l + 1) (sym (first-out (take k xs))) ∙ lists.length-remove (take k xs) 0 (omega (arith, used)) ∙ used

  pub shifted : (ws : List A) → ws ≡ copy_within xs 1 k 0 → set ws (k - 1) d ≡ padded n d (remove (take k xs) 0)
  unfolding padded
  shifted ws e =
      let more : suc (n - k) ≡ n - length (remove (take k xs) 0) = omega (arith, fewer, low, long) in
      moved-up xs k 0 d some low ws e
      ∙ (λ i. first-out (take k xs) i ++ (d ∷ past i))
      ∙ ap (λ (j : ℕ). remove (take k xs) 0 ++ replicate j d) more

  pub left : (ws : List A) → ws ≡ copy_within xs 1 k 0 → take (k - 1) (set ws (k - 1) d) ≡ remove (take k xs) 0
  left ws e =
      let size : k - 1 ≡ length (remove (take k xs) 0) = omega (arith, fewer) in
      (λ i. take (size i) (shifted ws e i)) ∙ padded-take n d (remove (take k xs) 0)

-- as it is laid out: a queue, and nothing sent
pub laid-out : (l : List Queued) (k : ℕ) → length l ≡ k → k ≤ queue_limit
    → IsLaid (l ++ drop k (replicate place_limit no_queued)) k (replicate out_limit no_wire) 0
unfolding padded
laid-out l k size low =
    let blanks : drop k (replicate place_limit no_queued) ≡ replicate (place_limit - k) no_queued = drop-replicate k place_limit no_queued in
    let front : take k (l ++ drop k (replicate place_limit no_queued)) ≡ l = take_at l _ k size in
    record {
      load = omega (arith, low);
      fits = omega (arith, low);
      places = length-append l _ ∙ ap (λ (r : List Queued). length l + length r) blanks ∙ ap (λ (n : ℕ). length l + n) (length-replicate (place_limit - k) no_queued) ∙ omega (arith, size, low);
      outbox = length-replicate out_limit no_wire;
      queue-blank = (λ i. l ++ blanks i) ∙ ap (λ (n : ℕ). l ++ replicate (place_limit - n) no_queued) (sym size) ∙ ap (padded place_limit no_queued) (sym front);
      out-blank = refl;
    }

module _ (queue : List Queued) (queued : ℕ) (out : List Wire) (sent : ℕ) (laid : IsLaid queue queued out sent) where
  in-queue : length (take queued queue) ≡ queued
  in-queue = length-take-le queued queue (omega (arith, laid.fits, laid.places))

  in-out : length (take sent out) ≡ sent
  in-out = length-take-le sent out (omega (arith, laid.load, laid.outbox))

  -- w is the work on the desk
  module _ (w : Work) (its-queue : w.queue ≡ take queued queue) (its-sent : w.sent ≡ take sent out) where
    in-use : length w.queue + length w.sent ≡ queued + sent
    in-use = (λ i. length (its-queue i) + length (its-sent i)) ∙ (λ i. in-queue i + in-out i)

    pub laid-sent : HasRoom w 1 → (x : Wire) → IsLaid queue queued (set out sent x) (sent + 1)
    laid-sent h x =
        record {
          load = omega (arith, in-use, h);
          fits = laid.fits;
          places = laid.places;
          outbox = length-set out sent x ∙ laid.outbox;
          queue-blank = laid.queue-blank;
          out-blank = padded-set out_limit no_wire out sent x (omega (arith, laid.load, laid.outbox)) (omega (arith, laid.load)) laid.out-blank;
        }

    pub laid-joined : HasRoom w 2 → (x : Queued) → IsLaid (set queue queued x) (queued + 1) out sent
    laid-joined h x =
        record {
          load = omega (arith, in-use, h);
          fits = omega (arith, in-use, h);
          places = length-set queue queued x ∙ laid.places;
          outbox = laid.outbox;
          queue-blank = padded-set place_limit no_queued queue queued x (omega (arith, in-use, h, laid.places)) (omega (arith, in-use, h)) laid.queue-blank;
          out-blank = laid.out-blank;
        }

    pub laid-shifted : 0 < length w.queue → (moved : List Queued) → length moved ≡ length queue → moved ≡ copy_within queue 1 queued 0
        → IsLaid (set moved (queued - 1) no_queued) (queued - 1) out sent
    laid-shifted h moved long e =
        let some : 0 < queued = omega (arith, h, in-queue, ap (λ (l : List Queued). length l) its-queue) in
        let low : queued ≤ length queue = omega (arith, laid.fits, laid.places) in
        record {
          load = omega (arith, laid.load);
          fits = omega (arith, laid.fits);
          places = length-set moved (queued - 1) no_queued ∙ long ∙ laid.places;
          outbox = laid.outbox;
          queue-blank =
              shifted place_limit queued no_queued queue some low laid.places laid.queue-blank moved e
              ∙ ap (padded place_limit no_queued) (sym (left place_limit queued no_queued queue some low laid.places laid.queue-blank moved e));
          out-blank = laid.out-blank;
        }
