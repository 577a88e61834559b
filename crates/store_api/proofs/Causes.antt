-- The entries of a refusal tell why it came, and so does what a store shows of it.
use Rattle.std.proofs.Common.{◌≡◌, ◌≢◌, ℕ, ◌<◌, List, [], ◌∷◌, ◌++◌, Option, Some, None, All, refl, ap, sym, ◌∙◌, subst, append-nil, append_assoc}
use Rattle.std.proofs.lemmas.List.{map-append}
use Rattle.std.proofs.lemmas.List.Elements.{All-nil, All-cons}
use Rattle.reservation_tree.specs.declared.mark.Mark.{Mark}
use Rattle.reservation_tree.specs.declared.errors.PoolErr.{PoolErr}
use Rattle.reservation_tree.specs.declared.errors.PoolErr.TheVariants.{WriteFault, ReadFault, Stale}
use Rattle.pool_model.specs.declared.call.Call.{Call}
use Rattle.pool_model.specs.declared.call.Call.TheVariants.{Pin}
use Rattle.pool_model.specs.declared.event.Event.{Event}
use Rattle.pool_model.specs.declared.event.Event.TheVariants.{Ask, PinLoad, ReadFailed, ReadStale, StartWrite, WriteOk, WriteFailed, Refused}
use Rattle.pool_model.specs.declared.entry.Entry.{Entry}
use Rattle.store_api.specs.Holdings.{Holdings}
use Rattle.store_api.specs.Refusing.{by, TellThese, IsOfWrite, TellFailedWrite, TellFailedRead, TellStale}
use Rattle.store_api.specs.Signs.{Signs, Entered, HasFailedWrite, HasFailedRead, HasFoundStale}
use Rattle.store_api.specs.Entries.{AreWrites, IsAsked, IsTaken, IsRefusal, Made}
use Rattle.store_api.specs.EntryLaws.{RefusalTells, AllRefusalsTell}
use Rattle.store_api.proofs.Names.{entered_so}

of_writes : (t : ℕ) (h : Holdings) (writes : List Event) → AreWrites t h writes → All IsOfWrite writes
of_writes t h [] are = All-nil IsOfWrite
of_writes t h (StartWrite p ∷ WriteOk q ∷ rest) (own, same, are) =
    All-cons IsOfWrite (StartWrite p) (WriteOk q ∷ rest) tt (All-cons IsOfWrite (WriteOk q) rest tt (of_writes t h rest are))
of_writes t h (StartWrite p ∷ WriteFailed q before after ∷ rest) (own, same, are) =
    All-cons IsOfWrite (StartWrite p) (WriteFailed q before after ∷ rest) tt (All-cons IsOfWrite (WriteFailed q before after) rest tt (of_writes t h rest are))
of_writes t h _ are = absurd are

module _ (maker : ℕ) where
  by_both : (first last : List Event) → by maker (first ++ last) ≡ by maker first ++ by maker last
  by_both first last = map-append (λ (e : Event). record { maker = maker; event = e }) first last

  -- what ends a maker's entries stands among them
  ends_tell : (front last events : List Event) → events ≡ front ++ last → TellThese last (by maker events)
  ends_tell front last events is =
      (by maker front, maker, [], ap (by maker) is ∙ by_both front last ∙ ap (λ (xs : List Entry). by maker front ++ xs) (sym (append-nil (by maker last))))

  -- a call that took room ends by its last entries
  taken_tells : (t : ℕ) (h : Holdings) (first : Event) (last events : List Event) → IsTaken t h (first ∷ last) events → TellThese last (by maker events)
  taken_tells t h first last events taken =
      let writes : List Event = taken.2.0 in
      let evicts : List Event = taken.0 in
      ends_tell (Ask ∷ (writes ++ (evicts ++ first ∷ []))) last events
      (taken.2.2 ∙ ap (λ (xs : List Event). Ask ∷ (writes ++ xs)) (sym (append_assoc evicts (first ∷ []) last))
      ∙ ap (λ (xs : List Event). Ask ∷ xs) (sym (append_assoc writes (evicts ++ first ∷ []) last)))

  module _ (t : ℕ) (h : Holdings) (events : List Event) where
    write_tells : (what : Call) (entry : ℕ) → IsRefusal t h what (WriteFault entry) events → TellFailedWrite entry (by maker events)
    write_tells what entry asked = (asked.0, what, of_writes t h asked.0 asked.1, ends_tell [] (Ask ∷ (asked.0 ++ Refused what entry ∷ [])) events asked.2)

    read_tells : (p entry : ℕ) → IsRefusal t h (Pin p) (ReadFault entry) events → TellFailedRead entry (by maker events)
    read_tells p entry failed = (p, failed.0, failed.1, taken_tells t h (PinLoad p) (ReadFailed p failed.0 failed.1 ∷ Refused (Pin p) entry ∷ []) events failed.2)

    stale_tells : (p : ℕ) (wanted found : Mark) → IsRefusal t h (Pin p) (Stale wanted found) events → TellStale wanted found (by maker events)
    stale_tells p wanted found stale = (p, stale.0, taken_tells t h (PinLoad p) (ReadStale p wanted found ∷ Refused (Pin p) stale.0 ∷ []) events stale.1)

pub refusals_tell : AllRefusalsTell
refusals_tell maker t h events =
    record {
      write = write_tells maker t h events;
      read = read_tells maker t h events;
      stale = stale_tells maker t h events;
    }

module _ (maker t : ℕ) (h : Holdings) (old new : Signs) where
  made_tell : (P : List Event → Type 0) (Q : List Entry → Type 0) → ((events : List Event) → P events → Q (by maker events)) → Made maker P old new → Entered Q old.trail new.trail
  made_tell P Q so made =
      entered_so (λ more. (events : List Event) × (more ≡ by maker events) × P events) Q (λ more was. subst Q (sym was.1) (so was.0 was.2)) old.trail new.trail made

  -- a store that shows a failure, and the entries of its refusal, answered it
  pub write_answered : (what : Call) (entry : ℕ) → old.failures < new.failures → Made maker (IsRefusal t h what (WriteFault entry)) old new → HasFailedWrite entry old new
  write_answered what entry rose made =
      record {
        rose = rose;
        told = made_tell (IsRefusal t h what (WriteFault entry)) (TellFailedWrite entry) (λ events is. write_tells maker t h events what entry is) made;
      }

  pub read_answered : (p entry : ℕ) → old.failures < new.failures → Made maker (IsRefusal t h (Pin p) (ReadFault entry)) old new → HasFailedRead entry old new
  read_answered p entry rose made =
      record {
        rose = rose;
        told = made_tell (IsRefusal t h (Pin p) (ReadFault entry)) (TellFailedRead entry) (λ events is. read_tells maker t h events p entry is) made;
      }

  pub stale_answered : (p : ℕ) (wanted found : Mark) → old.stale < new.stale → found ≢ wanted → Made maker (IsRefusal t h (Pin p) (Stale wanted found)) old new → HasFoundStale wanted found old new
  stale_answered p wanted found rose other made =
      record {
        rose = rose;
        other = other;
        told = made_tell (IsRefusal t h (Pin p) (Stale wanted found)) (TellStale wanted found) (λ events is. stale_tells maker t h events p wanted found is) made;
      }
