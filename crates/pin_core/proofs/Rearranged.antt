-- Trackers, quotas and sessions change, and pages and buffers stay: all that follows.
use Rattle.std.proofs.Common.{◌≡◌, ℕ, Bool, true, false, List, [], ◌∷◌, ◌++◌, length, get_or, Option, Some, None, refl, sym, ◌∙◌, subst}
use Rattle.std.proofs.Math.Path.{fun_ext}
use Rattle.std.specs.FinMap.{get}
use Rattle.outside.specs.declared.slot.Slot.{Ghosts}
use Rattle.page_table.specs.declared.entry.Entry.{Entry}
use Rattle.scratch_dev.specs.declared.quota.Quota.{Quota}
use Rattle.reservation_tree.specs.Tree.{TreeState, charge_of as charge_in}
use Rattle.session_table.specs.Seats.{Seats}
use Rattle.session_table.specs.Sessions.{sessions_in}
use Rattle.pool_model.specs.declared.entry.Entry.{Entry as Event}
use Rattle.pool_model.specs.State.{Opening}
use Rattle.pool_model.specs.Sums.{charge_of, slots_of}
use Rattle.pool_model.specs.MayFollow.{MayFollow}
use Rattle.pool_model.specs.Effects.{after}
use Rattle.pool_model.specs.LookingBack.{left_in, content_of}
use Rattle.pool_model.specs.HistoryLaws.{made}
use Rattle.pin_core.specs.declared.kept.Kept.{Kept}
use Rattle.pin_core.specs.declared.parts.Parts.{Parts}
use Rattle.pin_core.specs.StateOf.{page_of, pages_in, state_of}
use Rattle.pin_core.specs.Invariant.{HasHistory, IsQuota, AreSeated, IsKept}
use Rattle.pin_core.specs.Standing.{StandsFor, Holds}
use Rattle.pin_core.specs.Marking.{form_of}
use Rattle.pin_core.specs.parts.Rearranging.{rearranged}
use Rattle.pin_core.proofs.Entered.{Done}
use Rattle.pin_core.proofs.Histories.{GrewBy, grew, history_grows, content_grows}
use Rattle.pin_core.proofs.Stands.{was_made}

module _ {D : Type 0} where
  -- what such an event has to keep
  pub record Rearranges (tree : TreeState) (opens : List Bool) (quotas : List (Option Quota)) (spare : ℕ) (seats : Seats) (v : Parts D) (e : Event) : Type 0 where
    pub charges : (t : ℕ) → charge_in tree t ≡ charge_in v.tree t
    pub opened : (p : ℕ) (x : Entry (Kept D)) → get v.pages.entries p ≡ Some x → get_or opens x.client false ≡ true
    pub lent : (q : ℕ) → IsQuota (get (sessions_in seats) q) (get_or quotas q None) (slots_of (pages_in v.pages) q)
    pub seated : AreSeated (rearranged tree opens quotas spare seats v)
    pub clients : length opens ≡ length v.lists.is_open
    pub sessions : length quotas ≡ length v.slots.quotas
    pub state : state_of (rearranged tree opens quotas spare seats v) ≡ after (state_of v) e
    pub may : (h : List Event) → MayFollow h (state_of v) e
    pub leaves : (q : ℕ) (old : List ℕ) → left_in q e.event old ≡ old

  module _ (tree : TreeState) (opens : List Bool) (quotas : List (Option Quota)) (spare : ℕ) (seats : Seats) (v : Parts D) (e : Event) (is_kept : IsKept v)
      (r : Rearranges tree opens quotas spare seats v e) where
    rearranged_kept : IsKept (rearranged tree opens quotas spare seats v)
    rearranged_kept =
        let c = is_kept.counted in let s = is_kept.sized in record {
          legal = subst HasHistory (sym r.state) (history_grows (state_of v) e is_kept.legal r.may);
          placed = λ key name page live there.
              let at = is_kept.placed key name page live there in
              record { on = at.on; opened = r.opened name page there; size = at.size; clean = at.clean; blocks = at.blocks; mem = at.mem; kept = at.kept };
          stray = is_kept.stray;
          counted = record { charges = λ t. r.charges t ∙ c.charges t; free = c.free; quotas = r.lent; room = c.room };
          seated = r.seated;
          lent = is_kept.lent;
          sized = record {
            len = s.len;
            some = s.some;
            short = s.short;
            memory = s.memory;
            clients = r.clients ∙ s.clients;
            sessions = r.sessions ∙ s.sessions;
            nodes = s.nodes;
            cleans = s.cleans;
            book = s.book;
          };
        }

    rearranged_stands : (slot : Ghosts D) (o : Opening) (h : List Event) → StandsFor slot o h v → StandsFor slot o (h ++ e ∷ []) (rearranged tree opens quotas spare seats v)
    rearranged_stands slot o h stands =
        let more : GrewBy o h (state_of v) e = grew o h (state_of v) e stands.legal stands.state (r.may h) in record {
          legal = more.legal;
          state = r.state ∙ more.state;
          holds = λ q page there. subst (λ (b : List ℕ). Holds slot (form_of v) q b page)
              (sym (content_grows o h e q (made (page_of v.pages q page)) (was_made slot o h v stands q page there) ∙ r.leaves q (content_of o h q))) (stands.holds q page there);
        }

    pub rearranged_done : Done (e ∷ []) [] [] v (rearranged tree opens quotas spare seats v)
    rearranged_done = record {
      kept = rearranged_kept;
      enters = λ slot. record {
        state = r.state;
        stands = rearranged_stands slot;
        slots = λ measure. refl;
      };
    }

  -- the charges of the tree are those of the model
  pub charges_are : (v : Parts D) → IsKept v → charge_in v.tree ≡ charge_of (state_of v)
  charges_are v is_kept = fun_ext (λ t. is_kept.counted.charges t)
