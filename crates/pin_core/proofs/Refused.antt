-- A refusal is entered: one history that allows it suffices to keep all.
use Rattle.std.proofs.Common.{◌≡◌, ◌+◌, ℕ, List, [], ◌∷◌, ◌++◌, refl, sym, subst, arith}
use Rattle.outside.specs.declared.slot.Slot.{Ghosts}
use Rattle.pool_model.specs.declared.call.Call.{Call}
use Rattle.pool_model.specs.declared.entry.Entry.{Entry as Event}
use Rattle.pool_model.specs.State.{Opening, shown}
use Rattle.pool_model.specs.MayFollow.{MayFollow}
use Rattle.pool_model.specs.HistoryLaws.{made}
use Rattle.pin_core.specs.declared.parts.Parts.{Parts}
use Rattle.pin_core.specs.StateOf.{page_of, state_of}
use Rattle.pin_core.specs.Invariant.{IsKept}
use Rattle.pin_core.specs.Standing.{StandsFor, Holds}
use Rattle.pin_core.specs.Marking.{form_of}
use Rattle.pin_core.specs.parts.Changes.{counted}
use Rattle.pin_core.specs.calls.Refusing.{MayEnter, refusal_of}
use Rattle.pin_core.specs.calls.Returning.{EntersWhere}
use Rattle.pin_core.proofs.Histories.{GrewBy, grew, content_grows}
use Rattle.pin_core.proofs.Stands.{was_made}

module _ {D : Type 0} (slot : Ghosts D) where
  -- what it leaves
  pub record Refused (v new : Parts D) (e : Event) : Type 0 where
    pub kept : IsKept new
    pub enters : EntersWhere slot (λ o h. MayFollow h (state_of v) e) e [] v new

  module _ (v : Parts D) (s : ℕ) (call : Call) (entry : ℕ) where
    abbrev e : Event
    e = refusal_of s call entry

    refuse_kept : IsKept v → MayEnter slot v e → IsKept (counted v)
    refuse_kept is_kept may =
        let more : GrewBy may.opening may.history (state_of v) e = grew may.opening may.history (state_of v) e may.stands.legal may.stands.state may.may in
        let c = is_kept.counted in let z = is_kept.sized in let p = is_kept.placed in record {
          legal = record { opening = may.opening; history = may.history ++ e ∷ []; legal = more.legal; after = more.state };
          placed = λ key name page live there. let at = p key name page live there in record { on = at.on; opened = at.opened; size = at.size; clean = at.clean; blocks = at.blocks; mem = at.mem; kept = at.kept };
          stray = is_kept.stray;
          counted = record { charges = c.charges; free = c.free; quotas = c.quotas; room = c.room };
          seated = let q = is_kept.seated in record { clients = q.clients; opens = q.opens; few = q.few };
          lent = is_kept.lent;
          sized = record { len = z.len; some = z.some; short = z.short; clients = z.clients; sessions = z.sessions; nodes = z.nodes; cleans = z.cleans; memory = z.memory; book = z.book };
        }

    refuse_stands : (o : Opening) (h : List Event) → StandsFor slot o h v → MayFollow h (state_of v) e → StandsFor slot o (h ++ e ∷ []) (counted v)
    refuse_stands o h stands may =
        let more : GrewBy o h (state_of v) e = grew o h (state_of v) e stands.legal stands.state may in record {
          legal = more.legal;
          state = more.state;
          holds = λ q page there. subst (λ (b : List ℕ). Holds slot (form_of v) q b page) (sym (content_grows o h e q (made (page_of v.pages q page)) (was_made slot o h v stands q page there))) (stands.holds q page there);
        }

    pub refused : IsKept v → MayEnter slot v e → Refused v (counted v) e
    refused is_kept may = record {
      kept = refuse_kept is_kept may;
      enters = record { state = refl; stands = refuse_stands; slots = λ measure. omega arith };
    }

  -- the same, where the parts are known by an equation
  pub refused_told : (v old : Parts D) → v ≡ old → (s : ℕ) (call : Call) (entry n : ℕ) → n ≡ shown (v.entries + 1) → IsKept v
      → MayEnter slot old (refusal_of s call entry) → Refused old (record v { entries = n }) (refusal_of s call entry)
  refused_told v old same s call entry n is is_kept may =
      subst (λ (k : ℕ). Refused old (record v { entries = k }) (refusal_of s call entry)) (sym is)
      (subst (λ (z : Parts D). Refused z (counted v) (refusal_of s call entry)) same
      (refused v s call entry is_kept (subst (λ (z : Parts D). MayEnter slot z (refusal_of s call entry)) (sym same) may)))
