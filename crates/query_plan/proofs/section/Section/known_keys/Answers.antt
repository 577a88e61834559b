use Rattle.std.proofs.Common.{◌≡◌, ◌∙◌, sym, refl, true, false}
use Rattle.toml.specs.View.{table_view}
use Rattle.query_plan.specs.Faults.{unknown_fault, is_allowed}
use Rattle.query_plan.specs.Keys.{rows_of}
use Rattle.query_plan.proofs.LeastKey.{first_is_least, seen_more, none_left, all_left}
use Rattle.query_plan.proofs.section.Section.known_keys.Goals as goal

pub loop-key-init : goal.loop-key-init
loop-key-init c = (
  tt,
  tt,
  all_left _ c.args.self.now.table.now.entries _ c.keys-key-items.ensures.ordered
      (c.into_iter-key-iterator.ensures.into_iter_gives ∙ c.keys-key-items.ensures.rest),
)

pub loop-key-preserved : goal.loop-key-preserved
loop-key-preserved c =
    let good : is_allowed (rows_of c.args.place) (table_view c.args.self.now.table.now) c.as_str.result.now ≡ true = sym c.if-not-allows.ensures in (
      tt,
      tt,
      seen_more _ _ _ c.in-Some.key.now _ c.loop-key.invariant.2 c.in-Some.ensures.steps
          (rw c.as_str.ensures.value at good),
    )

pub returns-then-not-allows-clause-tells : goal.returns-then-not-allows-clause-tells
unfolding unknown_fault
returns-then-not-allows-clause-tells c = λ other.
    let bad : is_allowed (rows_of c.args.place) (table_view c.args.self.now.table.now) c.as_str.result.now ≡ false = sym c.if-not-allows.ensures in
    rw (first_is_least _ _ _ c.in-Some.key.now _ c.loop-key.invariant.2 c.in-Some.ensures.steps (rw c.as_str.ensures.value at bad), c.in_ok-key.ensures.path, c.as_bytes.ensures.value) refl

pub returns-clause-clears : goal.returns-clause-clears
unfolding unknown_fault
returns-clause-clears c = rw (none_left _ _ _ c.loop-key.invariant.2 c.in-None.ensures.steps.0) refl
