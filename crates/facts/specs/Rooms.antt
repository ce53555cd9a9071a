-- What the test of one room's record says, clause by clause.
use Rattle.std.specs.Prelude.{◌≡◌, ◌⊎◌, ◌≢◌, ◌&&◌, ◌||◌, ℕ, ◌≤◌, ◌<◌, leb}
use Rattle.std.proofs.Math.Path.{refl, sym}
use Rattle.std.proofs.Common.{◌∙◌}
use Rattle.std.proofs.Math.Logic.{⊎_elim}
use Rattle.std.proofs.Math.Bool.{true}
use Rattle.std.proofs.Math.Dec.{ltb, eqb}
use borrow.Author.Tests.{ltb-true, leb-true, eqb-true, eqb-false, not-true, lt-ltb, le-leb, eq-eqb, ne_eqb}
use Rattle.base.specs.Choice.{split}
use Rattle.base.specs.Tests.{◌implies◌, and_left, and_right, implies-use, implies-show, same-use, same-show, or-use, or_left, or_right, clash, ◌also◌}
use Rattle.base.specs.Below.{all-at, all_of}
use Rattle.std.specs.Prelude.{Some, None, is_none}
use Rattle.modes.specs.Codes.{U, W}
use Rattle.room.specs.declared.Room.{Room}
use Rattle.room.specs.declared.Entry.{Entry}
use Rattle.room.specs.Limits.{room_limit}
use Rattle.room.specs.Record.{entry_at, lender_of}
use Rattle.room.specs.Owned.{owned}
use Rattle.room.proofs.Owning.{owned-either}
use Rattle.room.proofs.Lenders.{is-none, is-some, none-is, lender-not, not-lender}
use Rattle.table.specs.Formed.{entry_fine, room_fine, holds_rightly, owes_rightly, entries_fine}

-- room c's entry for room j, in a table of n rooms
pub record EntryFacts (n c j : ℕ) (e : Entry) : Type 0 where
  -- "codes .. in range"
  pub code : e.mode ≤ W
  -- "an entry of mode none has link number zero"
  pub unlinked : e.mode ≡ 0 → e.link ≡ 0
  -- "entries for [rooms n and above] are all none or zero"
  pub outside : n ≤ j → e.mode ≡ 0
  -- "no entry for oneself"
  pub own : j ≡ c → e.mode ≡ 0

-- the record of room c, in a table of n rooms
pub record RoomFacts (n c : ℕ) (r : Room) : Type 0 where
  -- "codes .. in range"
  pub held-code : r.held ≤ W
  pub wanted-code : r.wanted ≤ W
  pub credit-code : r.credit ≤ W
  -- "room numbers in range"
  pub toward-low : r.toward < n
  pub lender-low : r.lender ≢ None → lender_of r < n
  -- "toward is oneself exactly for the room with the token"
  pub toward-token : r.toward ≡ c → r.token ≡ true
  pub token-toward : r.token ≡ true → r.toward ≡ c
  -- "no lender is oneself"
  pub lender-other : r.lender ≢ Some c
  -- "link number zero, and so has a room without a lender"
  pub unlinked : r.lender ≡ None → r.link ≡ 0
  -- "lender is nobody exactly when credit is none"
  pub nobody-none : r.lender ≡ None → r.credit ≡ 0
  pub none-nobody : r.credit ≡ 0 → r.lender ≡ None
  -- "the room with the token has no lender"
  pub token-free : r.token ≡ true → r.lender ≡ None
  -- "U and W are held only with the token"
  pub U-token : r.held ≡ U → r.token ≡ true
  pub W-token : r.held ≡ W → r.token ≡ true
  -- "held and wanted together only as U and W (an upgrade)"
  pub upgrade : r.held ≢ 0 → r.wanted ≢ 0 → (r.held ≡ U) × (r.wanted ≡ W)
  -- each entry
  pub entry : (j : ℕ) → j < room_limit → EntryFacts n c j (entry_at r j)

-- what a room owns is a code, since its modes are
pub owned-code : (n c : ℕ) (r : Room) → RoomFacts n c r → owned r ≤ W
owned-code n c r f = owned-either r (λ (m : ℕ). m ≤ W) f.held-code (λ j l. (f.entry j l).code)

-- a test on one number, read as "gives"
gives : (a b c d : ℕ) → (eqb a b implies eqb c d) ≡ true → a ≡ b → c ≡ d
gives a b c d h e = eqb-true c d (implies-use (eqb a b) (eqb c d) h (eq-eqb a b e))

given : (a b c d : ℕ) → (a ≡ b → c ≡ d) → (eqb a b implies eqb c d) ≡ true
given a b c d h = implies-show (eqb a b) (eqb c d) (λ e. eq-eqb c d (h (eqb-true a b e)))

module _ (n c j : ℕ) (e : Entry) where
  pub entry-facts : entry_fine n c j e ≡ true → EntryFacts n c j e
  unfolding entry_fine
  entry-facts h =
      record {
        code = leb-true _ _ (and_left _ _ (and_left _ _ h));
        unlinked = gives e.mode 0 e.link 0 (and_right (leb e.mode W) _ (and_left _ _ h));
        outside = λ l. nothing (or_left (leb n j) (eqb j c) (le-leb n j l));
        own = λ l. nothing (or_right (leb n j) (eqb j c) (eq-eqb j c l));
      }
    where
      nothing : (leb n j || eqb j c) ≡ true → e.mode ≡ 0
      nothing p =
          eqb-true _ _
          (implies-use (leb n j || eqb j c) (eqb e.mode 0) (and_right (leb e.mode W && (eqb e.mode 0 implies eqb e.link 0)) _ h) p)

  pub entry-test : EntryFacts n c j e → entry_fine n c j e ≡ true
  unfolding entry_fine
  entry-test f =
      le-leb e.mode W f.code
      also given e.mode 0 e.link 0 f.unlinked
      also implies-show (leb n j || eqb j c) (eqb e.mode 0) (λ p. eq-eqb _ _ (nothing (or-use (leb n j) (eqb j c) p)))
    where
      nothing : (leb n j ≡ true) ⊎ (eqb j c ≡ true) → e.mode ≡ 0
      nothing = ⊎_elim (λ l. f.outside (leb-true n j l)) (λ l. f.own (eqb-true j c l))

module _ (n c : ℕ) (r : Room) where
  pub room-facts : room_fine n c r ≡ true → RoomFacts n c r
  unfolding room_fine holds_rightly owes_rightly entries_fine
  room-facts h =
      record {
        held-code = leb-true _ _ (search (and_left, and_right) depth 25 fits 4000);
        wanted-code = leb-true _ _ (search (and_left, and_right) depth 25 fits 4000);
        credit-code = leb-true _ _ (search (and_left, and_right) depth 25 fits 4000);
        toward-low = ltb-true _ _ (search (and_left, and_right) depth 25 fits 4000);
        lender-low = λ e. ⊎_elim (λ p. absurd (e (is-none _ p))) (λ p. ltb-true _ _ p) lender-in;
        toward-token = λ e. sym toward-is ∙ eq-eqb _ _ e;
        token-toward = λ e. eqb-true _ _ (toward-is ∙ e);
        lender-other = lender-not _ _ (not-true _ (search (and_left, and_right) depth 25 fits 4000));
        unlinked = λ e. eqb-true _ _ (implies-use (is_none r.lender) (eqb r.link 0) (search (and_left, and_right) depth 25 fits 4000) (none-is _ e));
        nobody-none = λ e. eqb-true _ _ (sym credit-is ∙ none-is _ e);
        none-nobody = λ e. is-none _ (credit-is ∙ eq-eqb _ _ e);
        token-free = λ e. is-none _ (implies-use r.token (is_none r.lender) (search (and_left, and_right) depth 25 fits 4000) e);
        U-token = λ e. strong (or_left (eqb r.held U) (eqb r.held W) (eq-eqb _ _ e));
        W-token = λ e. strong (or_right (eqb r.held U) (eqb r.held W) (eq-eqb _ _ e));
        upgrade = λ p q. together p q;
        entry = λ j l. entry-facts n c j (entry_at r j) (all-at room_limit (λ j. entry_fine n c j (entry_at r j)) (search (and_left, and_right) depth 25 fits 4000) j l);
      }
    where
      lender-in : (is_none r.lender ≡ true) ⊎ (ltb (lender_of r) n ≡ true)
      lender-in = or-use (is_none r.lender) (ltb (lender_of r) n) (search (and_left, and_right) depth 25 fits 4000)

      toward-is : eqb r.toward c ≡ r.token
      toward-is = same-use (eqb r.toward c) r.token (search (and_left, and_right) depth 25 fits 4000)

      credit-is : is_none r.lender ≡ eqb r.credit 0
      credit-is = same-use (is_none r.lender) (eqb r.credit 0) (search (and_left, and_right) depth 25 fits 4000)

      strong : (eqb r.held U || eqb r.held W) ≡ true → r.token ≡ true
      strong = implies-use (eqb r.held U || eqb r.held W) r.token (search (and_left, and_right) depth 25 fits 4000)

      together : r.held ≢ 0 → r.wanted ≢ 0 → (r.held ≡ U) × (r.wanted ≡ W)
      together p q = both (simp (ne_eqb _ _ p, ne_eqb _ _ q) at row)
        where
          row : (eqb r.held 0 || eqb r.wanted 0 || eqb r.held U && eqb r.wanted W) ≡ true
          row = search (and_left, and_right) depth 25 fits 4000

          both : (eqb r.held U && eqb r.wanted W) ≡ true → (r.held ≡ U) × (r.wanted ≡ W)
          both b = (eqb-true _ _ (and_left _ _ b), eqb-true _ _ (and_right (eqb r.held U) _ b))

  pub room-test : RoomFacts n c r → room_fine n c r ≡ true
  unfolding room_fine holds_rightly owes_rightly entries_fine
  room-test f =
      lt-ltb r.toward n f.toward-low
      also same-show (eqb r.toward c) r.token toward-is
      also (le-leb r.held W f.held-code
      also le-leb r.wanted W f.wanted-code
      also implies-show (eqb r.held U || eqb r.held W) r.token strong
      also together)
      also (le-leb r.credit W f.credit-code
      also lender-in
      also rw (not-lender r.lender c f.lender-other) refl
      also implies-show (is_none r.lender) (eqb r.link 0) (λ e. eq-eqb _ _ (f.unlinked (is-none _ e)))
      also same-show (is_none r.lender) (eqb r.credit 0) credit-is
      also implies-show r.token (is_none r.lender) (λ e. none-is _ (f.token-free e)))
      also all_of room_limit (λ j. entry_fine n c j (entry_at r j)) (λ j l. entry-test n c j (entry_at r j) (f.entry j l))
    where
      lender-in : (is_none r.lender || ltb (lender_of r) n) ≡ true
      lender-in =
          split (is_none r.lender)
          (λ e. or_left (is_none r.lender) (ltb (lender_of r) n) e)
          (λ e. or_right (is_none r.lender) (ltb (lender_of r) n) (lt-ltb _ _ (f.lender-low (is-some _ e))))

      toward-is : eqb r.toward c ≡ r.token
      toward-is =
          split (eqb r.toward c)
          (λ e. e ∙ sym (f.toward-token (eqb-true _ _ e)))
          (λ e. split r.token (λ k. clash (eq-eqb _ _ (f.token-toward k)) e) (λ k. e ∙ sym k))

      credit-is : is_none r.lender ≡ eqb r.credit 0
      credit-is =
          split (is_none r.lender)
          (λ e. e ∙ sym (eq-eqb _ _ (f.nobody-none (is-none _ e))))
          (λ e. split (eqb r.credit 0) (λ k. clash (none-is _ (f.none-nobody (eqb-true _ _ k))) e) (λ k. e ∙ sym k))

      strong : (eqb r.held U || eqb r.held W) ≡ true → r.token ≡ true
      strong h = ⊎_elim (λ e. f.U-token (eqb-true _ _ e)) (λ e. f.W-token (eqb-true _ _ e)) (or-use (eqb r.held U) (eqb r.held W) h)

      together : (eqb r.held 0 || eqb r.wanted 0 || eqb r.held U && eqb r.wanted W) ≡ true
      together =
          split (eqb r.held 0)
          (λ e. rw e refl)
          (λ e. split (eqb r.wanted 0)
          (λ k. rw (e, k) refl)
          (λ k. let u = f.upgrade (eqb-false _ _ e) (eqb-false _ _ k) in rw (u.0, u.1) refl))
