-- What a call asks and writes, one event after the other.
use Rattle.std.proofs.Common.{ℕ, List, [], ◌∷◌, ◌++◌, refl, sym, ap, ◌∙◌}
use Rattle.std.proofs.lemmas.List.{append-nil}
use Rattle.pool_model.specs.declared.event.Event.{Event}
use Rattle.pool_model.specs.declared.event.Event.TheVariants.{Ask, StartWrite, WriteOk, WriteFailed}
use Rattle.store_api.specs.Holdings.{Holdings, IsPageOf}
use Rattle.store_api.specs.Entries.{AreWrites, IsAsked}
use Rattle.session_calls.specs.Writing.{IsEnd, IsWrite}

-- a write more
writes_more : (t : ℕ) (h : Holdings) (writes : List Event) (p : ℕ) (end : Event) → AreWrites t h writes → IsPageOf t h p → IsEnd p end → AreWrites t h (writes ++ StartWrite p ∷ end ∷ [])
writes_more t h [] p (WriteOk q) are own is = (own, is, tt)
writes_more t h [] p (WriteFailed q before now) are own is = (own, is, tt)
writes_more t h [] p _ are own is = absurd is
writes_more t h (StartWrite q ∷ WriteOk r ∷ more) p end are own is = (are.0, are.1, writes_more t h more p end are.2 own is)
writes_more t h (StartWrite q ∷ WriteFailed r before now ∷ more) p end are own is = (are.0, are.1, writes_more t h more p end are.2 own is)
writes_more t h _ p end are own is = absurd are

pub asked_none : (t : ℕ) (h : Holdings) → IsAsked t h [] (Ask ∷ [])
asked_none t h = ([], tt, refl)

pub asked_more : (t : ℕ) (h : Holdings) (events write : List Event) → IsAsked t h [] events → IsWrite t h write → IsAsked t h [] (events ++ write)
asked_more t h events write asked is =
    let both : List Event = asked.0 ++ StartWrite is.page ∷ is.end ∷ [] in (
      both,
      writes_more t h asked.0 is.page is.end asked.1 is.own is.ended,
      ap (λ (es : List Event). es ++ write) (asked.2 ∙ ap (λ (es : List Event). Ask ∷ es) (append-nil asked.0))
          ∙ ap (λ (es : List Event). Ask ∷ (asked.0 ++ es)) is.are ∙ ap (λ (es : List Event). Ask ∷ es) (sym (append-nil both)),
    )

pub asked_last : (t : ℕ) (h : Holdings) (events last : List Event) → IsAsked t h [] events → IsAsked t h last (events ++ last)
asked_last t h events last asked =
    (asked.0, asked.1, ap (λ (es : List Event). es ++ last) (asked.2 ∙ ap (λ (es : List Event). Ask ∷ es) (append-nil asked.0)))
