use Rattle.std.proofs.Common.{◌≡◌, ◌∙◌, ℕ, ◌+◌, [], Some, Option, IsSome, refl, ap, sym, subst, arith}
use Rattle.std.proofs.lemmas.Option.{none-some}
use Rattle.store_api.specs.Changes.{after_reserve, raised}
use Rattle.store_api.specs.Conditions.{IsIdle}
use Rattle.store_api.specs.Holdings.{Account, Holdings, LiveLoan, account_of, no_account, or_else, unused_of}
use Rattle.store_api.specs.Signs.{Signs}
use Rattle.store_api.proofs.Puts.{put_here}
use Rattle.tuple_stream.specs.Families.{AreShaped, Family, family}
use Rattle.partition_stack.specs.Stack.{IsStack, Stack, first_sixteen, over}
use Rattle.partition_stack.specs.Changes.{EndsAll, Owns}
use Rattle.partition_stack.proofs.Coming.{sixteen_come}
use Rattle.partition_stack.proofs.Owned.{owned_stay}
use Rattle.tests_stores.proofs.tests.stacks.walked_by.Goals as goal

no_stack : IsStack (record { page_blocks = 1; streams = []; levels = [] })
no_stack =
    record {
      sized = refl;
      each = λ i s at. absurd (none-some s at);
      levelled = refl;
      placed = λ i level at. absurd (none-some level at);
    }

none_shaped : (t : ℕ) (h : Holdings) (signs : Signs) → AreShaped t (family [] h signs)
none_shaped t h signs = record { each = λ i s at. absurd (none-some s at); apart = λ i j a b differ first second. absurd (none-some a first) }

-- a client without pages and loans, of which all is unused, has new partitions and nothing else
new_owned : (t bytes : ℕ) (old h : Holdings) (signs : Signs) → h ≡ after_reserve t bytes old → IsIdle t old → (account_of t old).unused ≡ (account_of t old).reservation → Owns t 0 (over (first_sixteen 1) h signs)
new_owned t bytes old h signs is idle even =
    let account : h.clients t ≡ Some (raised bytes (account_of t old)) = ap (λ (x : Holdings). x.clients t) is ∙ put_here t (Some (raised bytes (account_of t old))) old.clients in
    let none : Owns t 0 (family [] h signs) =
    record {
      lives = subst (λ (o : Option Account). IsSome o) (sym account) refl;
      shaped = none_shaped t h signs;
      only = λ q page lives outside. idle.pages q page (sym (ap (λ (x : Holdings). x.pages q) is) ∙ lives);
      even =
          let unused : unused_of t h ≡ (account_of t old).unused + bytes = ap (λ (o : Option Account). (or_else no_account o).unused) account in
          let reserved : (account_of t h).reservation ≡ (account_of t old).reservation + bytes = ap (λ (o : Option Account). (or_else no_account o).reservation) account in
          omega (arith, unused, reserved, even);
    } in
    (sixteen_come t 0 0 0 (record { page_blocks = 1; streams = []; levels = [] }) h signs no_stack).owns none

-- and when all partitions end it has neither page nor loan
ended_idle : (t : ℕ) (old : Holdings) (f : Family) (h : Holdings) (signs : Signs) → IsIdle t old → f.held.loans ≡ old.loans → Owns t 0 f → EndsAll t f (family [] h signs) → IsIdle t h
ended_idle t old f h signs idle loans owns ends =
    let left : Owns t 0 (family [] h signs) = owned_stay t 0 f (family [] h signs) owns ends.touches (none_shaped t h signs) in
    record {
      pages = λ q page lives. left.only q page lives (λ i s at. absurd (none-some s at));
      loans = λ q loan lives. idle.loans q loan (sym (ap (λ (ls : ℕ → Option LiveLoan). ls q) (ends.touches.loans ∙ loans)) ∙ lives);
    }

pub walked-seen-requires : goal.walked-seen-requires
walked-seen-requires g c =
    let t = c.args.c.now.tracker in
    let h = g.St.Store.holds c.reserve.new.self in
    let signs = g.St.Store.signs c.reserve.new.self in
    subst (λ (p : Stack). Owns t 0 (over p h signs)) (sym c.in_ok-parts.ensures)
    (new_owned t _ (g.St.Store.holds c.args.store.now) h signs c.in_ok-reserve.ensures.ok c.requires.idle c.requires.unused)

pub returns-clause-idle : goal.returns-clause-idle
returns-clause-idle g c =
    let loans = c.walked-seen.ensures.loans ∙ ap (λ (x : Holdings). x.loans) c.in_ok-reserve.ensures.ok in
    ended_idle c.args.c.now.tracker (g.St.Store.holds c.args.store.now) _ _ _ c.requires.idle loans c.walked-seen.ensures.owns c.end.ensures
