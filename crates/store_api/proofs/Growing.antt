-- What a store shows only grows, over one call and over many.
use Rattle.std.proofs.Common.{List, [], ◌++◌, Option, Some, None, refl, ap, sym, ◌∙◌, subst, arith, append-nil, append_assoc}
use Rattle.pool_model.specs.declared.entry.Entry.{Entry}
use Rattle.store_api.specs.Signs.{Signs, Prolongs, Grows}

prolongs_refl : (trail : Option (List Entry)) → Prolongs trail trail
prolongs_refl None = refl
prolongs_refl (Some entries) = ([], ap Some (sym (append-nil entries)))

prolongs_trans : (a b c : Option (List Entry)) → Prolongs a b → Prolongs b c → Prolongs a c
prolongs_trans None b c first second = subst (λ (o : Option (List Entry)). Prolongs o c) first second
prolongs_trans (Some before) b c first second =
    let next : Prolongs (Some (before ++ first.0)) c = subst (λ (o : Option (List Entry)). Prolongs o c) first.1 second in
    (first.0 ++ next.0, next.1 ∙ ap Some (append_assoc before first.0 next.0))

-- where nothing was called, it grew by nothing
pub grows_refl : (s : Signs) → Grows s s
grows_refl s =
    record {
      failures = omega arith;
      failures_of = λ t. omega arith;
      refused_unpins = omega arith;
      stale = omega arith;
      spent = λ e. e;
      trail = prolongs_refl s.trail;
    }

-- over two calls, one after the other
pub grows_trans : (a b c : Signs) → Grows a b → Grows b c → Grows a c
grows_trans a b c first second =
    record {
      failures = omega (arith, first.failures, second.failures);
      failures_of = λ t. omega (arith, first.failures_of t, second.failures_of t);
      refused_unpins = omega (arith, first.refused_unpins, second.refused_unpins);
      stale = omega (arith, first.stale, second.stale);
      spent = λ e. second.spent (first.spent e);
      trail = prolongs_trans a.trail b.trail c.trail first.trail second.trail;
    }
