-- DELIVER keeps a moment whole: the message is off its wire, with what it names and the token that it carries in hand.
use Rattle.std.specs.Prelude.{◌≡◌, refl, ◌≢◌, Bool, true, false, ◌&&◌, List, ◌++◌, ℕ, ◌≤◌, ◌<◌, ltb, eqb, length, set}
use Rattle.std.proofs.Common.{sym, ◌∙◌, ap, arith, length-set, eq-eqb, ne_eqb}
use Rattle.std.proofs.Math.Path.{subst⁻¹}
use Rattle.std.proofs.Math.Bool.{not}
use Rattle.std.proofs.lemmas.Bool.{eqb-false, not-true}
use Rattle.base.specs.Choice.{by-test}
use Rattle.base.specs.Tests.{and_left, and_right, clash}
use Rattle.base.specs.Sums.{one}
use Rattle.std.specs.Prelude.{Option, None}
use Rattle.modes.specs.Codes.{W}
use Rattle.modes.specs.Modes.{can_lend}
use Rattle.modes.proofs.Laws.{small-code, small-weak}
use Rattle.room.specs.declared.Room.{Room}
use Rattle.room.specs.Limits.{room_limit}
use Rattle.room.specs.Record.{entry_of, lender_in, with_modes, with_token, with_debt, set_entry}
use Rattle.room.specs.Owned.{owned}
use Rattle.room.specs.Rules.{lent, lent_to, leaving, granted, lifted, tokened_by, tokened, reduced}
use Rattle.room.proofs.Lenders.{lender-within}
use Rattle.table.specs.declared.Wire.{Wire}
use Rattle.table.specs.declared.Message.{Message}
use Rattle.table.specs.declared.Message.TheVariants as msg
use Rattle.table.specs.Formed.{due, is_token, is_named_in, names}
use Rattle.rules.specs.Work.{Work, with_room, send, join, change}
use Rattle.rules.specs.Rules.{lend, settle, serve, take_request, receive}
use Rattle.facts.specs.Rooms.{RoomFacts}
use Rattle.facts.specs.Due.{due-none, due-same}
use Rattle.facts.specs.Moments.{QueuedFacts}
use Rattle.facts.specs.Messages.{GrantFacts, TokenFacts, proper}
use Rattle.facts.specs.Tokens.{gone-tokenless}
use Rattle.facts.specs.Wires.{wire, sent-out}
use Rattle.facts.specs.Cases.{reduced-either}
use Rattle.kept.specs.Changed.{changed-same}
use Rattle.kept.specs.Moment.{Right, empty}
use Rattle.kept.specs.Records.{modes-facts, counter-facts, free-facts, owing-facts, gained-facts, entry-set-facts}
use Rattle.kept.specs.Acts.{At, Whole, now, only, own_room, own-names, set-alike, set-unnamed, put-joined}
use Rattle.kept.specs.Sends.{put-request, put-leaving}
use Rattle.kept.specs.Settle.{settle-kept}
use Rattle.kept.specs.Loans.{lend-kept}
use Rattle.kept.specs.Turns.{waits_one}
use Rattle.kept.specs.Serve.{serve-kept, settle-or-serve-kept}

module _ (n : ℕ) (rooms : ℕ → Room) (kept : List Wire) (w : Work) (from : ℕ) where
  -- the room that acts, as it is among the rooms now
  own : now rooms w w.me ≡ w.room
  own = changed-same rooms w.me w.room

  -- the room waits for m, and its name is in hand: nothing else names it
  unnamed : (m loose : ℕ) → 1 ≤ m → due (now rooms w w.me) ≡ m → At n rooms kept w (only w.me) loose
      → names w.queue (kept ++ w.sent) w.me ≡ 0
  unnamed m loose some waits a = omega (
    arith,
    own-names n rooms kept w (only w.me) loose a,
    waits_one w.room m (ap due (sym own) ∙ waits) some,
    ap one (eq-eqb w.me w.me refl),
  )

  -- a room that has got its mode is named no more
  ended : (c : ℕ) → c < n → c ≢ w.me → 0 ≡ only w.me c
  ended c l e = sym (ap one (ne_eqb w.me c (λ k. e (sym k))))

  module _ (o m : ℕ) (idle : Bool) (named : QueuedFacts n (now rooms w) (record { room = o; mode = m }))
      (without : (now rooms w o).token ≡ false) (a : At n rooms kept w (only o) 0) where
    -- "REQUEST at the room with the token: it joins the end of the queue, then serve."
    joined-kept : w.room.token ≡ true → Whole n rooms kept (serve (join w o m))
    unfolding join
    joined-kept with =
        serve-kept n rooms kept (join w o m)
        (put-joined n rooms kept w (only o) 0 a o m empty named (λ c l. omega arith)) with

    -- "if the origin owned nothing, isn't b, and owned of b can lend the mode, b lends, then settles"
    lent-kept : w.room.token ≡ false → o ≢ w.me → can_lend (owned w.room) m ≡ true → Whole n rooms kept (settle (lend w o m))
    unfolding lend send lent lent_to
    lent-kept none other can =
        settle-kept n rooms kept (lend w o m) (lend-kept n rooms kept w o m named.low other can named.waits without a) none

    -- "else b sends it on, unchanged, to toward"
    on-kept : w.room.token ≡ false → Whole n rooms kept (send w w.room.toward (msg.Request o m idle))
    on-kept none =
        let facts = own_room n rooms kept w (only o) 0 a in
        put-request n rooms kept w w.room.toward facts.toward-low (λ k. clash (facts.toward-token k) none) o m idle named without a

    request-kept : Whole n rooms kept (take_request w o m idle)
    unfolding take_request
    request-kept =
        by-test (Whole n rooms kept) w.room.token _ _ joined-kept λ none.
        by-test (Whole n rooms kept) (idle && not (eqb o w.me) && can_lend (owned w.room) m) _ _
        (λ e. lent-kept none (eqb-false _ _ (not-true _ (and_right idle _ (and_left _ _ e)))) (and_right (idle && not (eqb o w.me)) _ e))
        (λ e. on-kept none)

  module _ (from_low : from < n) (apart : from ≢ w.me) where
    -- "GRANT: .. Then lender a, the new link number, credit and held the mode, wanted none."
    grant-kept : (m l : ℕ) → GrantFacts (now rooms w w.me) m → At n rooms kept w (only w.me) 0
        → Whole n rooms kept (receive w from (msg.Grant m l))
    unfolding receive granted
    grant-kept m l grant a =
        put-leaving n rooms kept (with_room w lending) w.room from facts.lender-low facts.lender-other
        (set-unnamed n rooms kept w (only w.me) 0 a lending lending-facts a.long (unnamed m 0 grant.some grant.waits a) empty 0 ended
        (sym (ap (λ (d : ℕ). one (ltb 0 d)) (due-none lending refl))) refl)
      where
        facts : RoomFacts n w.me w.room
        facts = own_room n rooms kept w (only w.me) 0 a

        code : m ≤ W
        code = omega (arith, small-code m grant.weak)

        lending : Room
        lending = with_debt (with_modes w.room m 0) (lender_in from) m l

        lending-facts : RoomFacts n w.me lending
        lending-facts =
            subst⁻¹ (λ (o : Option ℕ). RoomFacts n w.me (with_debt (with_modes w.room m 0) o m l)) (lender-within from n from_low a.small)
            (owing-facts n w.me (with_modes w.room m 0)
            (modes-facts n w.me w.room facts m 0 code (omega arith) (λ e. absurd ((small-weak m grant.weak).0 e))
            (λ e. absurd ((small-weak m grant.weak).1 e)) (λ p z. absurd (z refl)))
            from m l a.small from_low apart grant.some code (ap (λ (r : Room). r.token) (sym own) ∙ grant.without))

    -- while the token is in hand no room has it
    tokenless : At n rooms kept w (only w.me) 1 → w.room.token ≡ false
    tokenless a =
        ap (λ (r : Room). r.token) (sym own) ∙ gone-tokenless n (now rooms w) (kept ++ w.sent) (omega (arith, a.moment.token)) w.me a.low

    -- "TOKEN: .. then no lender, credit none, toward itself, held the mode, wanted none; its entry for a is the remaining mode .. then serve"
    pub arrived-kept : (m rest l : ℕ) → TokenFacts (now rooms w w.me) m rest → At n rooms kept w (only w.me) 1
        → Whole n rooms kept (change w (tokened w.room w.me from m rest l))
    unfolding tokened tokened_by
    arrived-kept m rest l arrives a =
        put-leaving n rooms kept (with_room w rooted) w.room from facts.lender-low facts.lender-other
        (set-unnamed n rooms kept w (only w.me) 1 a rooted rooted-facts long (unnamed m 1 arrives.some arrives.waits a) empty 0 ended
        (sym (ap (λ (d : ℕ). one (ltb 0 d)) (due-none rooted refl)))
        (rw (tokenless a) refl))
      where
        facts : RoomFacts n w.me w.room
        facts = own_room n rooms kept w (only w.me) 1 a

        rooted : Room
        rooted = tokened_by w.room w.me from m rest l

        -- its entry for the sender, then no lender, then the token, then the mode
        entered : Room
        entered = set_entry w.room from (entry_of rest l)

        entered-facts : RoomFacts n w.me entered
        entered-facts = entry-set-facts n w.me w.room facts from rest l a.small a.long from_low apart arrives.rest-code

        with-token : RoomFacts n w.me (with_token (with_debt entered None 0 0) true w.me)
        with-token =
            gained-facts n w.me (with_debt entered None 0 0) (free-facts n w.me entered entered-facts a.low a.small) a.low refl

        rooted-facts : RoomFacts n w.me rooted
        rooted-facts =
            counter-facts n w.me (with_modes (with_token (with_debt entered None 0 0) true w.me) m 0)
            (modes-facts n w.me (with_token (with_debt entered None 0 0) true w.me) with-token m 0 arrives.code (omega arith) (λ e. refl) (λ e. refl) (λ p z. absurd (z refl)))
            (lifted w.room.counter l)

        long : length (set w.room.entries from (entry_of rest l)) ≡ room_limit
        long = length-set w.room.entries from (entry_of rest l) ∙ a.long

    token-kept : (m rest l : ℕ) → TokenFacts (now rooms w w.me) m rest → At n rooms kept w (only w.me) 1
        → Whole n rooms kept (receive w from (msg.Token m rest l))
    unfolding receive tokened tokened_by
    token-kept m rest l arrives a =
        serve-kept n rooms kept (change w (tokened w.room w.me from m rest l)) (arrived-kept m rest l arrives a)
        (ap (λ (v : Work). v.room.token) (sent-out (with_room w (tokened_by w.room w.me from m rest l)) (leaving w.room from)))

    -- "REDUCE: if b's entry for a has this link number and a stronger mode than the new one, it takes the new mode; else the message is dropped."
    pub reduced-kept : (l m : ℕ) → m ≤ W → Whole n rooms kept w → Whole n rooms kept (with_room w (reduced w.room from l m))
    reduced-kept l m code a =
        reduced-either w.room from l m (λ (r : Room). Whole n rooms kept (with_room w r))
        (λ e. set-alike n rooms kept w empty 0 a (set_entry w.room from (entry_of m l))
        (entry-set-facts n w.me w.room (own_room n rooms kept w empty 0 a) from m l a.small a.long from_low apart code)
        (length-set w.room.entries from (entry_of m l) ∙ a.long) (due-same w.room _ refl refl) refl)
        (λ e. a)

    reduce-kept : (l m : ℕ) → m ≤ W → Whole n rooms kept w → Whole n rooms kept (receive w from (msg.Reduce l m))
    unfolding receive
    reduce-kept l m code a = settle-or-serve-kept n rooms kept (with_room w (reduced w.room from l m)) (reduced-kept l m code a)

  -- whatever the message is
  pub receive-kept : (m : Message) → Right n (now rooms w) (wire from w.me m)
      → At n rooms kept w (λ c. one (is_named_in c w.me m)) (one (is_token m)) → Whole n rooms kept (receive w from m)
  unfolding receive is_named_in is_token
  receive-kept msg.Nothing r a = absurd (proper r.facts)
  receive-kept (msg.Request o m idle) r a =
      request-kept o m idle (proper r.facts) (r.unowned o m idle refl) a
  receive-kept (msg.Grant m l) r a =
      grant-kept r.facts.from_low r.facts.apart m l (proper r.facts) a
  receive-kept (msg.Token m rest l) r a =
      token-kept r.facts.from_low r.facts.apart m rest l (proper r.facts) a
  receive-kept (msg.Reduce l m) r a =
      reduce-kept r.facts.from_low r.facts.apart l m (proper r.facts) a
