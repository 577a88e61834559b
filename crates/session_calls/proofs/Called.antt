-- Calls that need room of a client, whole.
use Rattle.std.proofs.Common.{◌≡◌, ℕ, ◌*◌, ◌<◌, List, [], ◌∷◌, ◌++◌, Result, Ok, Err, IfOk, IfErr, OnErr, OnOk, All, true, refl, sym, ap, ◌∙◌, subst}
use Rattle.std.proofs.lemmas.List.Elements.{All-nil, All-cons, All-head, All-tail, filter_map-append}
use Rattle.outside.specs.declared.slot.Slot.{Ghosts}
use Rattle.block_arena.specs.Memory.{Buffer}
use Rattle.reservation_tree.specs.declared.errors.PoolErr.{PoolErr}
use Rattle.reservation_tree.specs.declared.errors.PoolErr.TheVariants.{NamesSpent}
use Rattle.pool_model.specs.declared.call.Call.TheVariants as call
use Rattle.pool_model.specs.declared.event.Event.TheVariants.{Create}
use Rattle.pool_model.specs.declared.entry.Entry.{Entry}
use Rattle.pool_model.specs.State.{Opening}
use Rattle.pool_model.specs.LookingBack.{made_by, name_in, names_in}
use Rattle.store_api.specs.Tokens.{LoanToken, PageToken}
use Rattle.store_api.specs.Holdings.{Holdings, length_of, loan_len, loan_of}
use Rattle.store_api.specs.Conditions.{IsLoan, IsZeroed}
use Rattle.store_api.specs.Entries.{by, IsAsked, IsTaken}
use Rattle.own_entries.specs.OwnHoldings.{Outset}
use Rattle.session_calls.specs.Coming.{Evicts}
use Rattle.session_calls.specs.declared.hand.Hand.{Hand}
use Rattle.session_calls.specs.Told.{signs_in}
use Rattle.session_calls.specs.Ready.{IsReady}
use Rattle.session_calls.specs.Acting.{Acts, held_by, signs_by}
use Rattle.session_calls.specs.Coming.{IsFreshPage}
use Rattle.session_calls.specs.Having.{Sight, IsAtWork}
use Rattle.session_calls.specs.Jobs.{DoesIn}
use Rattle.session_calls.specs.Turning.{Refuses}
use Rattle.session_calls.proofs.Asked.{works_with, asked_held, taken_then}
use Rattle.session_calls.proofs.Did.{did_grows, did_made}

all_front : {X : Type 0} (P : X → Type 0) (front rest : List X) → All P (front ++ rest) → All P front
all_front P [] rest all = All-nil P
all_front P (x ∷ front) rest all = All-cons P x front (All-head P x (front ++ rest) all) (all_front P front rest (All-tail P x (front ++ rest) all))

-- what holds where a call was granted, and it was
pub in_ok : {A E : Type 0} (P : Type 0) (r : Result A E) (x : A) → r ≡ Ok x → OnOk r P → P
in_ok P r x is ok = subst (λ s. OnOk s P) is ok

-- a call that was refused left the value as it was, so what held of it still does
pub in_err_same : {A V : Type 0} (Q : Type 0) (P : V → Type 0) (old new : V) (r : Result A PoolErr) (e : PoolErr) → r ≡ Err e → OnErr r ((new ≡ old) × Q) → P old → P new
in_err_same Q P old new r e is err held = subst P (sym ((subst (λ s. OnErr s ((new ≡ old) × Q)) is err).0)) held

module _ {D : Type 0} (o : Opening) (u : Outset) where
  -- a call asked, and got its room
  module _ {A : Type 0} (t : ℕ) (start now : Hand D) (r : Result A PoolErr) (x : A) (is : r ≡ Ok x) (ok : OnOk r (DoesIn (IsAsked t (held_by o u start) []) start now)) where
    pub granted : DoesIn (IsAsked t (held_by o u start) []) start now
    granted = in_ok (DoesIn (IsAsked t (held_by o u start) []) start now) r x is ok

    pub granted_held : held_by o u now ≡ held_by o u start
    granted_held = asked_held o u t start now granted

    -- so a length is as it was
    pub length_now : (bytes blocks room : ℕ) → bytes ≡ length_of blocks (held_by o u start) → room ≡ blocks → bytes ≡ length_of room (held_by o u now)
    length_now bytes blocks room len same = len ∙ ap (λ (n : ℕ). length_of n (held_by o u start)) (sym same) ∙ ap (length_of room) (sym granted_held)

  -- a call asked, and then the page came, or names lacked
  module _ (t blocks : ℕ) (start now : Hand D) (asked : DoesIn (IsAsked t (held_by o u start) []) start now) where
    -- what is fresh after a call asked was so before
    fresh_before : (made : PageToken × Buffer) → IsFreshPage t blocks made (held_by o u now) (signs_by o now) → IsFreshPage t blocks made (held_by o u start) (signs_by o start)
    unfolding signs_in
    fresh_before made fresh =
        let same : held_by o u now ≡ held_by o u start = asked_held o u t start now asked in
        let own : List Entry = made_by start.trail start.session in
        let more : List Entry = by start.session asked.does.events in
        let all : names_in (made_by now.trail now.session) ≡ names_in own ++ names_in more =
        ap names_in (ap (made_by now.trail) asked.session ∙ asked.does.own) ∙ filter_map-append (λ (e : Entry). name_in e.event) own more in
        record {
          fresh = ap (λ (h : Holdings). h.pages made.0.name) (sym same) ∙ fresh.fresh;
          client = fresh.client;
          buffer = subst (λ (h : Holdings). IsZeroed blocks h made.1) same fresh.buffer;
          unspent = λ spent. fresh.unspent ((did_grows o u start now asked).spent spent);
          above = all_front (λ q. q < made.0.name) (names_in own) (names_in more) (subst (All (λ q. q < made.0.name)) all fresh.above);
        }

    names_lack : (signs_by o now).spent ≡ true → Refuses o u t (call.Create t blocks) start now NamesSpent
    names_lack spent = record {
      did = asked;
      was = record { held = asked_held o u t start now asked; cause = spent; answered = spent; entries = did_made o u start now asked };
      grows = did_grows o u start now asked;
    }

    module _ (new : Hand D) where
      abbrev Came : PageToken × Buffer → Type 0
      Came made = Acts (Evicts (Create made.0.name t blocks made.0.key ∷ [])) now new

      abbrev Spent : Type 0
      Spent = (new ≡ now) × ((signs_by o now).spent ≡ true)

      pub taken_created : (r : Result (PageToken × Buffer) PoolErr) → IfOk r Came → IfOk r (λ made. DoesIn (IsTaken t (held_by o u start) (Create made.0.name t blocks made.0.key ∷ [])) start new)
      taken_created (Ok made) came = taken_then o u t start now asked (Create made.0.name t blocks made.0.key ∷ []) new came (refl, tt)
      taken_created (Err e) came = tt

      pub works_created : (slot : Ghosts D) (seen : Sight) (r : Result (PageToken × Buffer) PoolErr) → IsAtWork slot o u seen now → IfOk r Came → OnErr r Spent → IsReady slot o u new → IsAtWork slot o u seen new
      works_created slot seen (Ok made) was came spent ready = works_with slot o u seen now new was came ready
      works_created slot seen (Err e) was came spent ready = subst (IsAtWork slot o u seen) (sym spent.0) was

      pub refused_created : (r : Result (PageToken × Buffer) PoolErr) → IfErr r (λ e. e ≡ NamesSpent) → OnErr r Spent → IfErr r (Refuses o u t (call.Create t blocks) start new)
      refused_created (Ok made) is spent = tt
      refused_created (Err e) is spent =
          subst (λ (x : Hand D). Refuses o u t (call.Create t blocks) start x e) (sym spent.0) (subst (Refuses o u t (call.Create t blocks) start now) (sym is) (names_lack spent.1))

    pub fresh_taken : (r : Result (PageToken × Buffer) PoolErr) → IfOk r (λ made. IsFreshPage t blocks made (held_by o u now) (signs_by o now)) → IfOk r (λ made. IsFreshPage t blocks made (held_by o u start) (signs_by o start))
    fresh_taken (Ok made) fresh = fresh_before made fresh
    fresh_taken (Err e) fresh = tt

-- the buffer of a loan is as long as the loan
pub loan_bytes : (loan : LoanToken) (h : Holdings) (bytes : ℕ) (buf : Buffer) → IsLoan loan h → bytes ≡ buf.blocks * buf.block_len → buf ≡ loan.buf → bytes ≡ loan_len loan.number h
loan_bytes loan h bytes buf is whole same =
    whole ∙ ap (λ (b : Buffer). b.blocks * b.block_len) same ∙ ap (λ (n : ℕ). n * loan.buf.block_len) is.buffer.blocks ∙ ap (λ (n : ℕ). (loan_of loan.number h).blocks * n) is.buffer.block_len
