-- Serving, turn by turn: what one turn of the loop makes of the queue is one step of the definition.
use Rattle.std.specs.Prelude.{Some, None}
use Rattle.std.specs.List.{slice_get, remove}
use Rattle.std.proofs.Common.{◌≡◌, ℕ, ◌+◌, ◌<◌, ◌≤◌, Bool, true, false, not, ◌&&◌, eqb, List, [], ◌∷◌, length, refl, sym, ◌∙◌, ap, arith, if◌then◌else◌}
use borrow.Author.Tests.{eq-eqb, ne_eqb}
use Rattle.base.specs.Choice.{by-test}
use Rattle.base.specs.Sums.{one}
use Rattle.modes.specs.Modes.{agrees, can_lend}
use Rattle.room.specs.Owned.{owned, has_no_entries}
use Rattle.table.specs.declared.Queued.{Queued}
use Rattle.rules.specs.Work.{Work, with_queue, send}
use Rattle.rules.specs.Rules.{hold, lend, pass, upgrade_waits, upgraded, serve_queue, serve}

-- the head of a queue, and what is left without it
pub head-is : (l : List Queued) (q : Queued) → Some q ≡ slice_get l 0 → l ≡ q ∷ remove l 0
head-is [] q h = cc
head-is (x ∷ l) q h = cc

pub none-is : (l : List Queued) → None ≡ slice_get l 0 → l ≡ []
none-is [] h = refl
none-is (x ∷ l) h = cc

-- serving goes by the list that it is given, whatever queue the work has
queue-free : (l x : List Queued) (w : Work) → serve_queue (with_queue w x) l ≡ serve_queue w l
unfolding serve_queue hold lend pass send
queue-free [] x w = refl
queue-free (q ∷ l) x w =
    go (upgrade_waits w.room) (agrees (owned w.room) q.mode) (eqb q.room w.me) (can_lend (owned w.room) q.mode)
    (queue-free l x (hold w q.mode)) (queue-free l x (lend w q.room q.mode))
  where
    go : (a b c e : Bool) → serve_queue (with_queue (hold w q.mode) x) l ≡ serve_queue (hold w q.mode) l
        → serve_queue (with_queue (lend w q.room q.mode) x) l ≡ serve_queue (lend w q.room q.mode) l
        → (if a then with_queue w (q ∷ l) else (if not b then with_queue w (q ∷ l) else (if c then serve_queue (with_queue (hold w q.mode) x) l else (if e then serve_queue (with_queue (lend w q.room q.mode) x) l else pass (with_queue w l) q.room q.mode))))
        ≡ (if a then with_queue w (q ∷ l) else (if not b then with_queue w (q ∷ l) else (if c then serve_queue (hold w q.mode) l else (if e then serve_queue (lend w q.room q.mode) l else pass (with_queue w l) q.room q.mode))))
    go true b c e p r = refl
    go false false c e p r = refl
    go false true true e p r = p
    go false true false true p r = r
    go false true false false p r = refl

-- before the first turn: the upgrade leaves the queue as it was
pub upgraded-serves : (w u : Work) → u ≡ upgraded w → serve_queue u u.queue ≡ serve w
unfolding serve upgraded hold
upgraded-serves w u e =
    ap (λ (x : Work). serve_queue x x.queue) e
    ∙ ap (serve_queue (upgraded w)) (by-test (λ (x : Work). x.queue ≡ w.queue) (upgrade_waits w.room && has_no_entries w.room) _ _ (λ p. refl) (λ p. refl))

-- what is still to be done of serving: the queue, where another turn may follow
abbrev pub rest : Bool → Work → Work
rest true w = serve_queue w w.queue
rest false w = w

-- a turn of serving takes the work w to x: what is still to be done is the same, and there is less of it
pub record Turns (w : Work) (again : Bool) (x : Work) : Type 0 where
  pub same : rest again x ≡ rest true w
  pub falls : length x.queue + one again ≤ length w.queue

-- the loop's turns: another may follow, or not
module _ (w x s : Work) (inv : serve_queue w w.queue ≡ s) where
  pub goes_on : Turns w true x → serve_queue x x.queue ≡ s
  goes_on t = t.same ∙ inv

  pub goes_down : Turns w true x → length x.queue < length w.queue
  goes_down t = omega arith

  pub ends : Turns w false x → x ≡ s
  ends t = t.same ∙ inv

-- a turn at the desk w
module _ (w : Work) where
  pub turn-empty : None ≡ slice_get w.queue 0 → Turns w false w
  unfolding serve_queue
  turn-empty h =
      let p : w.queue ≡ [] = none-is w.queue h in
      record { same = ap (with_queue w) p ∙ ap (serve_queue w) (sym p); falls = omega arith }

  -- q is the head of the queue
  module _ (q : Queued) (first : Some q ≡ slice_get w.queue 0) where
    abbrev tail : List Queued
    tail = remove w.queue 0

    whole : w.queue ≡ q ∷ tail
    whole = head-is w.queue q first

    begin : serve_queue w (q ∷ tail) ≡ serve_queue w w.queue
    begin = ap (serve_queue w) (sym whole)

    shorter : length tail + 1 ≤ length w.queue
    shorter = omega (arith, ap length whole)

    stays : with_queue w (q ∷ tail) ≡ serve_queue w (q ∷ tail) → Turns w false w
    stays h = record { same = ap (with_queue w) whole ∙ h ∙ begin; falls = omega arith }

    module _ (b : Bool) (waits : b ≡ upgrade_waits w.room) where
      pub turn-waits : b ≡ true → Turns w false w
      unfolding serve_queue
      turn-waits h = stays (sym (simp (sym waits ∙ h)))

      -- the record is read from v, which is w
      module _ (free : b ≡ false) (v : Work) (e : v ≡ w) (o : ℕ) (own : o ≡ owned v.room) (g : Bool) (a : g ≡ agrees o q.mode) where
        owns : owned w.room ≡ o
        owns = sym (own ∙ ap (λ (x : Work). owned x.room) e)

        fits : agrees (owned w.room) q.mode ≡ g
        fits = ap (λ (k : ℕ). agrees k q.mode) owns ∙ sym a

        pub turn-conflict : g ≡ false → Turns w false w
        unfolding serve_queue
        turn-conflict h = stays (sym (simp (sym waits ∙ free, fits ∙ h)))

        -- the head is off the desk u, whose room is read from s
        module _ (agreed : g ≡ true) (u : Work) (off : u ≡ with_queue w tail) (s : Work) (f : s ≡ u) (x : Work) where
          me : s.me ≡ w.me
          me = ap (λ (z : Work). z.me) (f ∙ off)

          pub turn-holds : q.room ≡ s.me → x ≡ hold u q.mode → Turns w true x
          unfolding serve_queue hold
          turn-holds h y =
              let done : x ≡ hold (with_queue w tail) q.mode = y ∙ ap (λ (z : Work). hold z q.mode) off in
              record {
                same =
                    ap (rest true) done ∙ queue-free tail tail (hold w q.mode)
                    ∙ sym (simp (sym waits ∙ free, fits ∙ agreed, eq-eqb _ _ (h ∙ me))) ∙ begin;
                falls = omega (arith, shorter, ap (λ (z : Work). length z.queue) done);
              }

          module _ (other : q.room ≡ s.me → ⊥) (k : Bool) (lendable : k ≡ can_lend o q.mode) where
            away : q.room ≡ w.me → ⊥
            away z = other (z ∙ sym me)

            lends : can_lend (owned w.room) q.mode ≡ k
            lends = ap (λ (j : ℕ). can_lend j q.mode) owns ∙ sym lendable

            pub turn-lends : k ≡ true → x ≡ lend u q.room q.mode → Turns w true x
            unfolding serve_queue lend send
            turn-lends h y =
                let done : x ≡ lend (with_queue w tail) q.room q.mode = y ∙ ap (λ (z : Work). lend z q.room q.mode) off in
                record {
                  same =
                      ap (rest true) done ∙ queue-free tail tail (lend w q.room q.mode)
                      ∙ sym (simp (sym waits ∙ free, fits ∙ agreed, ne_eqb _ _ away, lends ∙ h)) ∙ begin;
                  falls = omega (arith, shorter, ap (λ (z : Work). length z.queue) done);
                }

            pub turn-passes : k ≡ false → x ≡ pass u q.room q.mode → Turns w false x
            unfolding serve_queue pass send
            turn-passes h y =
                let done : x ≡ pass (with_queue w tail) q.room q.mode = y ∙ ap (λ (z : Work). pass z q.room q.mode) off in
                record {
                  same = done ∙ sym (simp (sym waits ∙ free, fits ∙ agreed, ne_eqb _ _ away, lends ∙ h)) ∙ begin;
                  falls = omega (arith, shorter, ap (λ (z : Work). length z.queue) done);
                }
