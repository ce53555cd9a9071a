-- Messages that come and go without a TOKEN or a GRANT: what was said of all TOKENs and GRANTs stays.
use Rattle.std.specs.Prelude.{◌≡◌, refl, ◌⊎◌, ◌≢◌, Bool, true, false, List, [], ◌∷◌, ◌++◌, ℕ, zero, suc, get_or}
use Rattle.std.proofs.Common.{sym, ◌∙◌, ap, inl, inr, ⊎_elim}
use Rattle.std.proofs.lemmas.Bool.{false≢true}
use mathlib.Core.List.Memᴰ
use Rattle.base.specs.Tests.{clash}
use Rattle.base.specs.Lists.{Mem, remove}
use Rattle.room.specs.Record.{lender_of}
use Rattle.room.specs.declared.Room.{Room}
use Rattle.table.specs.declared.Wire.{Wire}
use Rattle.table.specs.declared.Message.{Message}
use Rattle.table.specs.declared.Message.TheVariants as msg
use Rattle.table.specs.Tables.{no_wire}
use Rattle.table.specs.Formed.{is_token}
use Rattle.facts.specs.Wires.{wire, leaving_sent}
use Rattle.facts.specs.Cases.{leaving-either}
use Rattle.tree.specs.Tree.{NoTokenTo, is_grant}

-- every GRANT of a list is one of another
abbrev pub GrantsIn : List Wire → List Wire → Type 0
GrantsIn after messages = (w : Wire) → Mem w after → is_grant w.message ≡ true → Mem w messages

-- there is no GRANT in a list
abbrev pub NoGrant : List Wire → Type 0
NoGrant messages = (w : Wire) → Mem w messages → is_grant w.message ≡ false

-- a message that is one says a mode and a link number
pub grant-is : (m : Message) → is_grant m ≡ true → (j : ℕ) × (l : ℕ) × (m ≡ msg.Grant j l)
unfolding is_grant
grant-is msg.Nothing h = absurd (false≢true h)
grant-is (msg.Request o m idle) h = absurd (false≢true h)
grant-is (msg.Grant m l) h = (m, l, refl)
grant-is (msg.Token m rest l) h = absurd (false≢true h)
grant-is (msg.Reduce l m) h = absurd (false≢true h)

-- a single message that is none
single-none : (w : Wire) → is_grant w.message ≡ false → NoGrant (w ∷ [])
single-none w h v member = ap (λ (x : Wire). is_grant x.message) (Memᴰ.eq_of_singleton member) ∙ h

-- a REDUCE, a REQUEST and a TOKEN are none
pub reduce-none : (a b l m : ℕ) → NoGrant (wire a b (msg.Reduce l m) ∷ [])
unfolding is_grant
reduce-none a b l m = single-none (wire a b (msg.Reduce l m)) refl

pub request-none : (a b o m : ℕ) (idle : Bool) → NoGrant (wire a b (msg.Request o m idle) ∷ [])
unfolding is_grant
request-none a b o m idle = single-none (wire a b (msg.Request o m idle)) refl

pub token-none : (a b m rest l : ℕ) → NoGrant (wire a b (msg.Token m rest l) ∷ [])
unfolding is_grant
token-none a b m rest l = single-none (wire a b (msg.Token m rest l)) refl

-- what is sent to an old lender is a REDUCE or nothing
pub leaving-none : (me : ℕ) (r : Room) (a : ℕ) → NoGrant (leaving_sent me r a)
leaving-none me r a =
    leaving-either me r a NoGrant (λ w member. absurd (Memᴰ.not-nil member)) (λ q. reduce-none me (lender_of r) r.link 0)

-- with such a list behind it the GRANTs are those of before
pub grants-front : (messages more : List Wire) → NoGrant more → GrantsIn (messages ++ more) messages
grants-front messages more h w member q =
    ⊎_elim (λ k. k) (λ k. clash q (h w k)) (Memᴰ.append_cases messages member)

-- no TOKEN to c in the longer list: none in the shorter
pub untold-front : (c : ℕ) (messages more : List Wire) → NoTokenTo c (messages ++ more) → NoTokenTo c messages
untold-front c messages more h w member = h w (Memᴰ.append_left more member)

-- a member stays, but for the one that is taken off
mem-kept : {A : Type 0} (k : ℕ) (l : List A) (d a : A) → Mem a l → Mem a (remove k l) ⊎ (a ≡ get_or l k d)
unfolding remove
mem-kept k [] d a m = absurd (Memᴰ.not-nil m)
mem-kept zero (x ∷ l) d a m = ⊎_elim (λ e. inr e) (λ i. inl i) (Memᴰ.cases_cons m)
mem-kept {A} (suc k) (x ∷ l) d a m = go (mem-kept k l d a) (Memᴰ.cases_cons m)
  where
    go : (Mem a l → Mem a (remove k l) ⊎ (a ≡ get_or l k d)) → (a ≡ x) ⊎ Mem a l → Mem a (x ∷ remove k l) ⊎ (a ≡ get_or l k d)
    go r (inl e) = inl (Memᴰ.head e)
    go r (inr i) = ⊎_elim (λ j. inl (Memᴰ.tail j)) (λ e. inr e) (r i)

-- the same where the message taken off was no TOKEN to c
pub untold-taken : (c : ℕ) (messages : List Wire) (k : ℕ) (v : Wire) → get_or messages k no_wire ≡ v → (is_token v.message ≡ true → v.to ≢ c)
    → NoTokenTo c (remove k messages) → NoTokenTo c messages
untold-taken c messages k v is not h w member q = go (mem-kept k messages no_wire w member)
  where
    go : Mem w (remove k messages) ⊎ (w ≡ get_or messages k no_wire) → w.to ≢ c
    go (inl i) = h w i q
    go (inr e) =
        let same : w ≡ v = e ∙ is in
        λ t. not (ap (λ (x : Wire). is_token x.message) (sym same) ∙ q) (ap (λ (x : Wire). x.to) (sym same) ∙ t)
