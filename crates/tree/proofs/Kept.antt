-- TREE is kept by each change of a room's record with its messages.
use Rattle.std.specs.Prelude.{◌≡◌, ◌⊎◌, ◌≢◌, Bool, List, [], ◌∷◌, ◌++◌, ℕ, ◌<◌, length, get_or}
use Rattle.std.proofs.Math.Path.{refl, ap}
use Rattle.std.proofs.Common.{sym, ◌∙◌, inl, ⊎_elim, arith}
use Rattle.std.proofs.Math.Logic.{inr}
use Rattle.std.proofs.lemmas.Bool.{false≢true}
use mathlib.Core.List.Memᴰ
use Rattle.base.specs.Sums.{same?}
use Rattle.base.specs.Lists.{Mem, remove, mem-remove, mem-snoc, mem-at}
use Rattle.std.specs.Prelude.{Option, Some, None, unwrap_or}
use Rattle.room.specs.declared.Room.{Room}
use Rattle.room.specs.Limits.{nobody}
use Rattle.room.specs.Record.{with_modes, with_debt, lender_of, lender_in}
use Rattle.room.specs.Rules.{next_link, lent_to, left, remaining, passed_to, credited, tokened_by, reduced}
use Rattle.room.proofs.Lenders.{lender-either}
use Rattle.table.specs.declared.Wire.{Wire}
use Rattle.table.specs.declared.Message.TheVariants as msg
use Rattle.table.specs.Tables.{no_wire}
use Rattle.table.specs.Formed.{is_token}
use Rattle.facts.specs.Wires.{wire, leaving_sent}
use Rattle.facts.specs.Cases.{passed-either, credited-either, reduced-either}
use Rattle.tree.specs.Tree.{NoTokenTo, is_grant, Tree}
use Rattle.tree.proofs.Frames.{grant-is, reduce-none, request-none, token-none, leaving-none, grants-front, untold-front, untold-taken}
use Rattle.tree.proofs.Ranks.{tree-less, tree-rerooted, tree-attached}

-- A REQUEST comes or goes

module _ (n : ℕ) (rooms : ℕ → Room) (messages : List Wire) (t : Tree n rooms messages) (a b o m : ℕ) (idle : Bool) where
  pub request-sent-tree : Tree n rooms (messages ++ (wire a b (msg.Request o m idle) ∷ []))
  request-sent-tree =
      tree-less n rooms rooms messages (messages ++ (wire a b (msg.Request o m idle) ∷ [])) t
      (λ c low some untold. (refl, untold-front c messages (wire a b (msg.Request o m idle) ∷ []) untold))
      (grants-front messages (wire a b (msg.Request o m idle) ∷ []) (request-none a b o m idle))

  pub request-taken-tree : (k : ℕ) → get_or messages k no_wire ≡ wire a b (msg.Request o m idle) → Tree n rooms (remove k messages)
  unfolding is_token
  request-taken-tree k is =
      tree-less n rooms rooms messages (remove k messages) t
      (λ c low some untold. (refl, untold-taken c messages k _ is (λ q. absurd (false≢true q)) untold))
      (λ w member q. mem-remove k messages member)

module _ (n : ℕ) (old new : ℕ → Room) (messages : List Wire) (me : ℕ) (low : me < n) (others : (c : ℕ) → c ≢ me → new c ≡ old c)
    (t : Tree n old messages) where
  -- a room's lender is as it was, if it is so at the room that changed
  lender-same : (new me).lender ≡ (old me).lender → (c : ℕ) → (new c).lender ≡ (old c).lender
  lender-same h c = ⊎_elim (λ e. rw e h) (λ e. ap (λ (r : Room). r.lender) (others c e)) (same? c me)

  -- the same, if that room can also have lost it
  lender-left : ((new me).lender ≡ None) ⊎ ((new me).lender ≡ (old me).lender) → (c : ℕ) → (new c).lender ≢ None → (new c).lender ≡ (old c).lender
  lender-left (inl h) c some =
      ⊎_elim (λ e. absurd (some (rw e h))) (λ e. ap (λ (r : Room). r.lender) (others c e)) (same? c me)
  lender-left (inr h) c some = lender-same h c

  -- MODES
  pub modes-tree : (h v : ℕ) → new me ≡ with_modes (old me) h v → Tree n new messages
  modes-tree h v here =
      tree-less n old new messages messages t
      (λ c low some untold. (lender-same (ap (λ (r : Room). r.lender) here) c, untold))
      (λ w member q. member)

  -- SETTLE
  pub settle-tree : (m : ℕ) → new me ≡ credited (old me) m
      → Tree n new (messages ++ (wire me (lender_of (old me)) (msg.Reduce (old me).link m) ∷ []))
  settle-tree m here =
      tree-less n old new messages (messages ++ (wire me (lender_of (old me)) (msg.Reduce (old me).link m) ∷ [])) t
      (λ c low some untold. (lender-left lender c some, untold-front c messages _ untold))
      (grants-front messages _ (reduce-none me (lender_of (old me)) (old me).link m))
    where
      lender : ((new me).lender ≡ None) ⊎ ((new me).lender ≡ (old me).lender)
      lender =
          rw here (credited-either (old me) m (λ (r : Room). (r.lender ≡ None) ⊎ (r.lender ≡ (old me).lender)) (λ e. inl refl) (λ e. inr refl))

  -- LEND by the room with the token, which has no lender and gets no GRANT: it becomes the lowest
  pub lend-root-tree : (y m : ℕ) → y ≢ me → new me ≡ lent_to (old me) y m → (old me).lender ≡ None
      → ((w : Wire) → Mem w messages → (j l : ℕ) → w.message ≡ msg.Grant j l → w.to ≢ me)
      → Tree n new (messages ++ (wire me y (msg.Grant m (next_link (old me).counter)) ∷ []))
  unfolding lent_to
  lend-root-tree y m other here free none =
      tree-rerooted n old new messages (messages ++ (wire me y (msg.Grant m (next_link (old me).counter)) ∷ [])) t me
      (λ c low some untold. (λ e. some (same c ∙ ap (λ (x : ℕ). (old x).lender) e ∙ free), inr (same c, untold-front c messages _ untold)))
      (λ w member is. let g = grant-is w.message is in by w g.0 g.1 g.2 (mem-snoc messages _ member))
    where
      same : (c : ℕ) → (new c).lender ≡ (old c).lender
      same = lender-same (ap (λ (r : Room). r.lender) here)

      by : (w : Wire) (j l : ℕ) → w.message ≡ msg.Grant j l
          → Mem w messages ⊎ (w ≡ wire me y (msg.Grant m (next_link (old me).counter))) → (w.to ≢ me) × ((w.«from» ≡ me) ⊎ Mem w messages)
      by w j l is (inl member) = (none w member j l is, inr member)
      by w j l is (inr e) = (λ q. other (sym (ap (λ (x : Wire). x.to) e) ∙ q), inl (ap (λ (x : Wire). x.«from») e))

  -- LEND by a room without the token to y, which owes nothing, lends nothing and gets no other GRANT: y is put above it
  pub lend-tree : (y m : ℕ) → y ≢ me → new me ≡ lent_to (old me) y m → (old y).lender ≡ None
      → ((c : ℕ) → c < n → c ≢ y → NoTokenTo c messages → (old c).lender ≢ Some y)
      → ((w : Wire) → Mem w messages → (j l : ℕ) → w.message ≡ msg.Grant j l → w.«from» ≢ y)
      → ((w : Wire) → Mem w messages → (j l : ℕ) → w.message ≡ msg.Grant j l → w.to ≢ y)
      → Tree n new (messages ++ (wire me y (msg.Grant m (next_link (old me).counter)) ∷ []))
  unfolding lent_to
  lend-tree y m other here free childless of_none to_none =
      tree-attached n old new messages (messages ++ (wire me y (msg.Grant m (next_link (old me).counter)) ∷ [])) t y me (λ e. other (sym e))
      (λ c low some untold.
      let apart : c ≢ y = λ e. some (same c ∙ ap (λ (x : ℕ). (old x).lender) e ∙ free) in
      let before = untold-front c messages _ untold in
      (apart, λ e. childless c low apart before (sym (same c) ∙ e), same c, before))
      (λ w member is. let g = grant-is w.message is in by w g.0 g.1 g.2 (mem-snoc messages _ member))
    where
      same : (c : ℕ) → (new c).lender ≡ (old c).lender
      same = lender-same (ap (λ (r : Room). r.lender) here)

      by : (w : Wire) (j l : ℕ) → w.message ≡ msg.Grant j l
          → Mem w messages ⊎ (w ≡ wire me y (msg.Grant m (next_link (old me).counter)))
          → ((w.«from» ≡ me) × (w.to ≡ y)) ⊎ ((w.«from» ≢ y) × (w.to ≢ y) × Mem w messages)
      by w j l is (inl member) = inr (of_none w member j l is, to_none w member j l is, member)
      by w j l is (inr e) = inl (ap (λ (x : Wire). x.«from») e, ap (λ (x : Wire). x.to) e)

  -- PASS to y, to which no GRANT is under way: y becomes the lowest, and is excused until the TOKEN has arrived
  pub pass-tree : (y m : ℕ) → new me ≡ passed_to (old me) y → (old me).lender ≡ None
      → ((w : Wire) → Mem w messages → (j l : ℕ) → w.message ≡ msg.Grant j l → w.to ≢ y)
      → Tree n new (messages ++ (wire me y (msg.Token m (remaining (old me) y) (next_link (old me).counter)) ∷ []))
  unfolding left is_token
  pass-tree y m here free none =
      tree-rerooted n old new messages (messages ++ (sent ∷ [])) t y
      (λ c low some untold. (
        λ e. untold sent (Memᴰ.append_right messages (Memᴰ.head refl)) refl (sym e),
        at c some (untold-front c messages (sent ∷ []) untold) (same? c me),
      ))
      (λ w member is.
      let before = grants-front messages (sent ∷ []) (token-none me y m (remaining (old me) y) (next_link (old me).counter)) w member is in
      let g = grant-is w.message is in
      (none w before g.0 g.1 g.2, inr before))
    where
      sent : Wire
      sent = wire me y (msg.Token m (remaining (old me) y) (next_link (old me).counter))

      lender : ((new me).lender ≡ None) ⊎ ((new me).lender ≡ Some y)
      lender = rw here (passed-either (old me) y (λ (r : Room). (r.lender ≡ None) ⊎ (r.lender ≡ Some y)) (λ e. inl free) (λ e. lender-either y))

      at : (c : ℕ) → (new c).lender ≢ None → NoTokenTo c messages → (c ≡ me) ⊎ (c ≢ me)
          → ((new c).lender ≡ Some y) ⊎ (((new c).lender ≡ (old c).lender) × NoTokenTo c messages)
      at c some untold (inl e) =
          ⊎_elim (λ q. absurd (some (ap (λ (x : ℕ). (new x).lender) e ∙ q))) (λ q. inl (ap (λ (x : ℕ). (new x).lender) e ∙ q)) lender
      at c some untold (inr e) = inr (ap (λ (r : Room). r.lender) (others c e), untold)

  -- The message at k arrives
  module _ (k : ℕ) (a : ℕ) where
    -- GRANT: its sender is below its receiver
    pub grant-tree : (m l : ℕ) → k < length messages → get_or messages k no_wire ≡ wire a me (msg.Grant m l)
        → new me ≡ with_debt (with_modes (old me) m 0) (lender_in a) m l → Tree n new (remove k messages ++ leaving_sent me (old me) a)
    unfolding is_token is_grant
    grant-tree m l inside is here =
        record {
          rank = t.rank;
          lender =
              λ c low some untold.
              at c low some (untold-taken c messages k _ is (λ q. absurd (false≢true q)) (untold-front c (remove k messages) _ untold)) (same? c me);
          grant =
              λ w member q.
              t.grant w (mem-remove k messages (grants-front (remove k messages) _ (leaving-none me (old me) a) w member q)) q;
        }
      where
        nearer : t.rank a < t.rank me
        nearer = t.grant (wire a me (msg.Grant m l)) (rw (← is) (mem-at messages k no_wire inside)) refl

        at : (c : ℕ) → c < n → (new c).lender ≢ None → NoTokenTo c messages → (c ≡ me) ⊎ (c ≢ me) → t.rank (lender_of (new c)) < t.rank c
        at c low some untold (inl e) =
            let lent : (new c).lender ≡ lender_in a = ap (λ (x : ℕ). (new x).lender) e ∙ ap (λ (r : Room). r.lender) here in
            ⊎_elim (λ z. absurd (some (lent ∙ z)))
            (λ z. let from : lender_of (new c) ≡ a = ap (λ (o : Option ℕ). unwrap_or o nobody) (lent ∙ z) in
            omega (arith, nearer, ap t.rank from, ap t.rank e))
            (lender-either a)
        at c low some untold (inr e) =
            let same : (new c).lender ≡ (old c).lender = ap (λ (r : Room). r.lender) (others c e) in
            rw same (t.lender c low (λ q. some (same ∙ q)) untold)

    -- TOKEN: its receiver has no lender now
    pub token-tree : (m rest l : ℕ) → get_or messages k no_wire ≡ wire a me (msg.Token m rest l) → new me ≡ tokened_by (old me) me a m rest l
        → Tree n new (remove k messages ++ leaving_sent me (old me) a)
    unfolding tokened_by
    token-tree m rest l is here =
        tree-less n old new messages (remove k messages ++ leaving_sent me (old me) a) t
        (λ c low some untold. (
          lender-left (inl free) c some,
          untold-taken c messages k _ is (λ q e. some (ap (λ (x : ℕ). (new x).lender) (sym e) ∙ free)) (untold-front c (remove k messages) _ untold),
        ))
        (λ w member q. mem-remove k messages (grants-front (remove k messages) _ (leaving-none me (old me) a) w member q))
      where
        free : (new me).lender ≡ None
        free = ap (λ (r : Room). r.lender) here

    -- REDUCE
    pub reduce-tree : (l m : ℕ) → get_or messages k no_wire ≡ wire a me (msg.Reduce l m) → new me ≡ reduced (old me) a l m → Tree n new (remove k messages)
    unfolding is_token
    reduce-tree l m is here =
        tree-less n old new messages (remove k messages) t
        (λ c low some untold. (lender-same lender c, untold-taken c messages k _ is (λ q. absurd (false≢true q)) untold))
        (λ w member q. mem-remove k messages member)
      where
        lender : (new me).lender ≡ (old me).lender
        lender = rw here (reduced-either (old me) a l m (λ (r : Room). r.lender ≡ (old me).lender) (λ e. refl) (λ e. refl))
