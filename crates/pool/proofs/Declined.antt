-- That a call was refused stays true of a beginning before which the session entered nothing.
use Rattle.std.proofs.Common.{◌≡◌, ℕ, ◌<◌, List, Option, sym, subst, arith}
use Rattle.reservation_tree.specs.declared.errors.PoolErr.{PoolErr}
use Rattle.reservation_tree.specs.declared.errors.PoolErr.TheVariants.{WriteFault, ReadFault, NamesSpent, Memory, Stale}
use Rattle.pool_model.specs.declared.call.Call.{Call}
use Rattle.pool_model.specs.declared.call.Call.TheVariants.{Pin, Create, Alloc}
use Rattle.pool_model.specs.declared.event.Event.{Event}
use Rattle.pool_model.specs.declared.entry.Entry.{Entry}
use Rattle.store_api.specs.Holdings.{Holdings}
use Rattle.store_api.specs.Signs.{Signs, Entered, Grows}
use Rattle.store_api.specs.Entries.{by, IsRefusal}
use Rattle.store_api.specs.Refusals.{MayRefuse, WasRefused}
use Rattle.store_api.proofs.Answered.{answered_before}

module _ (t : ℕ) (a b c : Signs) (first : Grows a b) where
  failed_before : b.failures_of t < c.failures_of t → a.failures_of t < c.failures_of t
  failed_before rose = let less = first.failures_of t in omega (arith, less, rose)

  may_before : (what : Call) (e : PoolErr) → MayRefuse t what b c e → MayRefuse t what a c e
  may_before what (WriteFault entry) may = failed_before may
  may_before (Pin p) (ReadFault entry) may = failed_before may
  may_before (Pin p) (Stale wanted found) may = (may.0, let less = first.stale in let rose = may.1 in omega (arith, less, rose))
  may_before (Create client blocks) NamesSpent may = may
  may_before (Create client blocks) Memory may = may
  may_before (Alloc client blocks) Memory may = may
  may_before what _ may = absurd may

  pub refused_before : a.trail ≡ b.trail → (what : Call) (old new : Holdings) (e : PoolErr) → WasRefused t what old new b c e → WasRefused t what old new a c e
  refused_before same what old new e was = record {
    held = was.held;
    cause = may_before what e was.cause;
    answered = answered_before e a b c first was.answered;
    entries =
        subst (λ (trail : Option (List Entry)). Entered (λ more. (events : List Event) × (more ≡ by old.session events) × IsRefusal t old what e events) trail c.trail)
        (sym same) was.entries;
  }
