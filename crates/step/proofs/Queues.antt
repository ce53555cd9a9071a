-- No event makes the queue longer than by one, and the room that acts stays the same.
use mathlib.Core.Path.{◌≡◌, refl, ◌∙◌, ap}
use mathlib.Core.Bool.{Bool, true, false, not, ◌&&◌}
use mathlib.Core.List.{List, [], ◌∷◌}
use Prim.Native.Nat.{ℕ, suc, ◌+◌, ◌≤◌}
use native.Mathlib.Omega.{arith}
use lib.Dec.{eqb}
use lib.ListN.{length, length-append}
use Rattle.std.specs.Prelude.{if◌then◌else◌}
use Rattle.base.specs.Choice.{by-test}
use Rattle.base.specs.Sums.{one}
use Rattle.modes.specs.Codes.{W}
use Rattle.modes.specs.Modes.{agrees, can_lend}
use Rattle.std.specs.Prelude.{Option}
use Rattle.room.specs.declared.Reduce.{Reduce}
use Rattle.room.specs.Owned.{owned, has_no_entries}
use Rattle.room.specs.Rules.{settled, granted, tokened, reduced}
use Rattle.table.specs.declared.Queued.{Queued}
use Rattle.table.specs.declared.Message.{Message}
use Rattle.table.specs.declared.Message.TheVariants as msg
use Rattle.rules.specs.Work.{Work, with_room, with_queue, send, join, send_out, change}
use Rattle.rules.specs.Rules.{hold, want, lend, pass, settle, upgrade_waits, upgraded, serve_queue, serve, settle_or_serve, is_empty, ask_with, ask_without, ask, upgrade, hand_back, take_request, receive}
use Rattle.facts.specs.Names.{is_request}
use Rattle.facts.specs.Wires.{sent-out}

-- the same room acts in v as in w, and v's queue is at most of this length
pub record Grows (most : ℕ) (w v : Work) : Type 0 where
  pub me : v.me ≡ w.me
  pub queue : length v.queue ≤ most

-- the longest that a queue can be after what begins at w
abbrev here : Work → ℕ
here w = length w.queue

grown : (k : ℕ) (w v : Work) → v.me ≡ w.me → v.queue ≡ w.queue → here w ≤ k → Grows k w v
grown k w v p q h = record { me = p; queue = omega (arith, ap length q) }

after : (k : ℕ) (w v x : Work) → v.me ≡ w.me → Grows k v x → Grows k w x
after k w v x p g = record { me = g.me ∙ p; queue = g.queue }

more : (j k : ℕ) (w v : Work) → j ≤ k → Grows j w v → Grows k w v
more j k w v h g = record { me = g.me; queue = omega (arith, g.queue) }

sends : (w : Work) (s : Option Reduce) → ((send_out w s).me ≡ w.me) × ((send_out w s).queue ≡ w.queue)
sends w s = (ap (λ (v : Work). v.me) (sent-out w s), ap (λ (v : Work). v.queue) (sent-out w s))

settle-grows : (w : Work) → Grows (here w) w (settle w)
unfolding settle
settle-grows w = let s = sends (with_room w (settled w.room).room) (settled w.room).send in grown (here w) w (settle w) s.0 s.1 (omega arith)

joins : (w : Work) (y m : ℕ) → Grows (here w + 1) w (join w y m)
unfolding join
joins w y m = record { me = refl; queue = simp length-append (omega arith) }

-- serving takes off, and adds nothing
serve-queue-grows : (l : List Queued) (w : Work) → Grows (length l) w (serve_queue w l)
unfolding serve_queue hold lend pass send
serve-queue-grows [] w = record { me = refl; queue = omega arith }
serve-queue-grows (q ∷ l) w =
    go (upgrade_waits w.room) (agrees (owned w.room) q.mode) (eqb q.room w.me) (can_lend (owned w.room) q.mode)
    (after (length l) w (hold w q.mode) _ refl (serve-queue-grows l (hold w q.mode)))
    (after (length l) w (lend w q.room q.mode) _ refl (serve-queue-grows l (lend w q.room q.mode)))
  where
    stop : Grows (suc (length l)) w (with_queue w (q ∷ l))
    stop = record { me = refl; queue = omega arith }

    gone : Grows (suc (length l)) w (pass (with_queue w l) q.room q.mode)
    gone = record { me = refl; queue = omega arith }

    go : (a b c e : Bool) → Grows (length l) w (serve_queue (hold w q.mode) l) → Grows (length l) w (serve_queue (lend w q.room q.mode) l)
        → Grows (suc (length l)) w (if a then with_queue w (q ∷ l) else (if not b then with_queue w (q ∷ l) else (if c then serve_queue (hold w q.mode) l else (if e then serve_queue (lend w q.room q.mode) l else pass (with_queue w l) q.room q.mode))))
    go true b c e x y = stop
    go false false c e x y = stop
    go false true true e x y = more (length l) (suc (length l)) w _ (omega arith) x
    go false true false true x y = more (length l) (suc (length l)) w _ (omega arith) y
    go false true false false x y = gone

serve-grows : (w : Work) → Grows (here w) w (serve w)
unfolding serve upgraded hold
serve-grows w =
    after (here w) w (upgraded w) (serve w)
    (by-test (λ (v : Work). v.me ≡ w.me) (upgrade_waits w.room && has_no_entries w.room) (hold w W) w (λ p. refl) (λ p. refl))
    (serve-queue-grows w.queue (upgraded w))

settle-or-serve-grows : (w : Work) → Grows (here w) w (settle_or_serve w)
unfolding settle_or_serve
settle-or-serve-grows w = by-test (Grows (here w) w) w.room.token (serve w) (settle w) (λ p. serve-grows w) (λ p. settle-grows w)

-- The events

pub ask-grows : (w : Work) (m : ℕ) → Grows (length w.queue + 1) w (ask w m)
unfolding ask ask_with ask_without hold want send
ask-grows w m =
    by-test (Grows (here w + 1) w) w.room.token (ask_with w m) (ask_without w m)
    (λ p. by-test (Grows (here w + 1) w) (is_empty w.queue && agrees m (owned w.room)) (hold w m) (join (want w m) w.me m) (λ q. stays) (λ q. after (here w + 1) w (want w m) _ refl (joins (want w m) w.me m)))
    (λ p. by-test (Grows (here w + 1) w) (can_lend (owned w.room) m) (hold w m) _ (λ q. stays) (λ q. record { me = refl; queue = omega arith }))
  where
    stays : Grows (here w + 1) w (hold w m)
    stays = record { me = refl; queue = omega arith }

pub upgrade-grows : (w : Work) → Grows (length w.queue) w (upgrade w)
unfolding upgrade hold want
upgrade-grows w =
    by-test (Grows (here w) w) (has_no_entries w.room) (hold w W) (want w W) (λ p. record { me = refl; queue = omega arith })
    (λ p. record { me = refl; queue = omega arith })

pub hand-back-grows : (w : Work) → Grows (length w.queue) w (hand_back w)
unfolding hand_back hold
hand-back-grows w = after (here w) w (hold w 0) (hand_back w) refl (settle-or-serve-grows (hold w 0))

request-grows : (w : Work) (o m : ℕ) (idle : Bool) → Grows (here w + 1) w (take_request w o m idle)
unfolding take_request lend send
request-grows w o m idle =
    by-test (Grows (here w + 1) w) w.room.token (serve (join w o m)) _
    (λ p. more (here (join w o m)) (here w + 1) w _ (joins w o m).queue (after (here (join w o m)) w (join w o m) _ (joins w o m).me (serve-grows (join w o m))))
    (λ p. by-test (Grows (here w + 1) w) (idle && not (eqb o w.me) && can_lend (owned w.room) m) (settle (lend w o m)) _
    (λ q. more (here w) (here w + 1) w _ (omega arith) (after (here w) w (lend w o m) _ refl (settle-grows (lend w o m))))
    (λ q. record { me = refl; queue = omega arith }))

pub receive-grows : (w : Work) (a : ℕ) (x : Message) → Grows (length w.queue + one (is_request x)) w (receive w a x)
unfolding receive is_request
receive-grows w a msg.Nothing = record { me = refl; queue = omega arith }
receive-grows w a (msg.Request o m idle) = request-grows w o m idle
receive-grows w a (msg.Grant m l) =
    let s = sends (with_room w (granted w.room a m l).room) (granted w.room a m l).send in
    grown (here w + 0) w _ s.0 s.1 (omega arith)
receive-grows w a (msg.Token m rest l) =
    let c = tokened w.room w.me a m rest l in
    let s = sends (with_room w c.room) c.send in
    let g = serve-grows (change w c) in
    record { me = g.me ∙ s.0; queue = omega (arith, g.queue, ap length s.1) }
receive-grows w a (msg.Reduce l m) =
    let g = settle-or-serve-grows (with_room w (reduced w.room a l m)) in
    record { me = g.me; queue = omega (arith, g.queue) }
