-- That a store answered an error between two moments stays true of an earlier beginning and of a later end.
use Rattle.std.proofs.Common.{ℕ, List, [], ◌∷◌, ◌++◌, Option, Some, None, ap, sym, ◌∙◌, subst, arith, append_assoc}
use Rattle.reservation_tree.specs.declared.mark.Mark.{Mark}
use Rattle.reservation_tree.specs.declared.errors.PoolErr.{PoolErr}
use Rattle.reservation_tree.specs.declared.errors.PoolErr.TheVariants.{NoReservation, ScratchFull, WriteFault, ReadFault, TooManyTrackers, NamesSpent, Memory, Stale}
use Rattle.pool_model.specs.declared.call.Call.TheVariants.{Pin}
use Rattle.pool_model.specs.declared.event.Event.{Event}
use Rattle.pool_model.specs.declared.event.Event.TheVariants.{Ask, ReadFailed, ReadStale, Refused}
use Rattle.pool_model.specs.declared.entry.Entry.{Entry}
use Rattle.store_api.specs.Refusing.{by, TellThese, TellFailedWrite, TellFailedRead, TellStale}
use Rattle.store_api.specs.Signs.{Signs, Prolongs, Grows, Entered, HasFailed, HasFoundStale, WasAnswered}

these_before : (events : List Event) (front more : List Entry) → TellThese events more → TellThese events (front ++ more)
these_before events front more told =
    (front ++ told.0, told.1, told.2, ap (λ (xs : List Entry). front ++ xs) told.3 ∙ sym (append_assoc front told.0 (by told.1 events ++ told.2)))

these_after : (events : List Event) (more back : List Entry) → TellThese events more → TellThese events (more ++ back)
these_after events more back told = (
  told.0,
  told.1,
  told.2 ++ back,
  ap (λ (xs : List Entry). xs ++ back) told.3 ∙ append_assoc told.0 (by told.1 events ++ told.2) back
      ∙ ap (λ (xs : List Entry). told.0 ++ xs) (append_assoc (by told.1 events) told.2 back),
)

-- what stays true of a trail with more in front of it, and behind it
record Lasts (P : List Entry → Type 0) : Type 0 where
  pub before : (front more : List Entry) → P more → P (front ++ more)
  pub after : (more back : List Entry) → P more → P (more ++ back)

write_lasts : (entry : ℕ) → Lasts (TellFailedWrite entry)
write_lasts entry =
    record {
      before = λ front more told. (told.0, told.1, told.2, these_before (Ask ∷ (told.0 ++ Refused told.1 entry ∷ [])) front more told.3);
      after = λ more back told. (told.0, told.1, told.2, these_after (Ask ∷ (told.0 ++ Refused told.1 entry ∷ [])) more back told.3);
    }

read_lasts : (entry : ℕ) → Lasts (TellFailedRead entry)
read_lasts entry =
    record {
      before = λ front more told. (told.0, told.1, told.2, these_before (ReadFailed told.0 told.1 told.2 ∷ Refused (Pin told.0) entry ∷ []) front more told.3);
      after = λ more back told. (told.0, told.1, told.2, these_after (ReadFailed told.0 told.1 told.2 ∷ Refused (Pin told.0) entry ∷ []) more back told.3);
    }

stale_lasts : (wanted found : Mark) → Lasts (TellStale wanted found)
stale_lasts wanted found =
    record {
      before = λ front more told. (told.0, told.1, these_before (ReadStale told.0 wanted found ∷ Refused (Pin told.0) told.1 ∷ []) front more told.2);
      after = λ more back told. (told.0, told.1, these_after (ReadStale told.0 wanted found ∷ Refused (Pin told.0) told.1 ∷ []) more back told.2);
    }

module _ (P : List Entry → Type 0) (lasts : Lasts P) where
  entered_before : (a b c : Option (List Entry)) → Prolongs a b → Entered P b c → Entered P a c
  entered_before None b c first told = subst (λ (o : Option (List Entry)). Entered P o c) first told
  entered_before (Some before) b c first told =
      let next : Entered P (Some (before ++ first.0)) c = subst (λ (o : Option (List Entry)). Entered P o c) first.1 told in
      (first.0 ++ next.0, next.1 ∙ ap Some (append_assoc before first.0 next.0), lasts.before first.0 next.0 next.2)

  entered_after : (a b c : Option (List Entry)) → Entered P a b → Prolongs b c → Entered P a c
  entered_after None b c told second = subst (λ (o : Option (List Entry)). Prolongs o c) told second
  entered_after (Some before) b c told second =
      let next : Prolongs (Some (before ++ told.0)) c = subst (λ (o : Option (List Entry)). Prolongs o c) told.1 second in
      (told.0 ++ next.0, next.1 ∙ ap Some (append_assoc before told.0 next.0), lasts.after told.0 next.0 told.2)

  failed_before : (a b c : Signs) → Grows a b → HasFailed P b c → HasFailed P a c
  failed_before a b c first failed =
      record {
        rose = omega (arith, first.failures, failed.rose);
        told = entered_before a.trail b.trail c.trail first.trail failed.told;
      }

  failed_after : (a b c : Signs) → HasFailed P a b → Grows b c → HasFailed P a c
  failed_after a b c failed second =
      record {
        rose = omega (arith, second.failures, failed.rose);
        told = entered_after a.trail b.trail c.trail failed.told second.trail;
      }

stale_before : (wanted found : Mark) (a b c : Signs) → Grows a b → HasFoundStale wanted found b c → HasFoundStale wanted found a c
stale_before wanted found a b c first stale =
    record {
      rose = omega (arith, first.stale, stale.rose);
      other = stale.other;
      told = entered_before (TellStale wanted found) (stale_lasts wanted found) a.trail b.trail c.trail first.trail stale.told;
    }

stale_after : (wanted found : Mark) (a b c : Signs) → HasFoundStale wanted found a b → Grows b c → HasFoundStale wanted found a c
stale_after wanted found a b c stale second =
    record {
      rose = omega (arith, second.stale, stale.rose);
      other = stale.other;
      told = entered_after (TellStale wanted found) (stale_lasts wanted found) a.trail b.trail c.trail stale.told second.trail;
    }

-- a span that begins earlier
pub answered_before : (e : PoolErr) (a b c : Signs) → Grows a b → WasAnswered e b c → WasAnswered e a c
answered_before (NoReservation tracker wanted room) a b c first was = was
answered_before (ScratchFull need free) a b c first was = omega (arith, first.refused_unpins, was)
answered_before (WriteFault entry) a b c first was = failed_before (TellFailedWrite entry) (write_lasts entry) a b c first was
answered_before (ReadFault entry) a b c first was = failed_before (TellFailedRead entry) (read_lasts entry) a b c first was
answered_before (TooManyTrackers count) a b c first was = was
answered_before NamesSpent a b c first was = was
answered_before Memory a b c first was = was
answered_before (Stale wanted found) a b c first was = stale_before wanted found a b c first was

-- a span that ends later
pub answered_after : (e : PoolErr) (a b c : Signs) → WasAnswered e a b → Grows b c → WasAnswered e a c
answered_after (NoReservation tracker wanted room) a b c was second = was
answered_after (ScratchFull need free) a b c was second = omega (arith, second.refused_unpins, was)
answered_after (WriteFault entry) a b c was second = failed_after (TellFailedWrite entry) (write_lasts entry) a b c was second
answered_after (ReadFault entry) a b c was second = failed_after (TellFailedRead entry) (read_lasts entry) a b c was second
answered_after (TooManyTrackers count) a b c was second = was
answered_after NamesSpent a b c was second = second.spent was
answered_after Memory a b c was second = was
answered_after (Stale wanted found) a b c was second = stale_after wanted found a b c was second
