use Rattle.std.proofs.Common.{◌≡◌, ◌+◌, ◌++◌, ◌∙◌, IsOk, [], ap, append-nil, arith, rules, subst, sum_by, sym}
use Rattle.std.proofs.lemmas.List.Sums.{sum_by-append}
use Rattle.crossbeam_queue.specs.Passes.{view}
use Rattle.fragments.specs.Places.{HasDone, weight_at}
use Rattle.fragments.proofs.Gathering.{all_front, all_last, all_both, front_less, refused_last, still_first, sum_last}
use Rattle.fragments.proofs.places.gather.Goals as goal

pub loop-places-preserved-in-Err : goal.loop-places-preserved-in-Err
loop-places-preserved-in-Err g c =
    let is = c.take_last-other.ensures.items in
    let inv = c.loop-places.invariant in
    let p = c.take_last-other.result in
    let last : HasDone c.args.queue.now p = all_last (HasDone c.args.queue.now) _ _ _ is inv.5 in
    let one : (view p.pass).parts ≡ 1 = ap (λ v. v.parts) last.put in
    let none : (view p.pass).put ≡ [] = ap (λ v. v.put) last.put in
    let parts : (view c.absorb.new.pass).parts ≡ (view c.loop-places.pass).parts + (view p.pass).parts = ap (λ v. v.parts) c.absorb.ensures.both in
    let put : (view c.absorb.new.pass).put ≡ (view c.loop-places.pass).put ++ (view p.pass).put = ap (λ v. v.put) c.absorb.ensures.both in
    let taken : (view c.absorb.new.pass).taken ≡ (view c.loop-places.pass).taken ++ (view p.pass).taken = ap (λ v. v.taken) c.absorb.ensures.both in (
      search rules,
      search rules,
      omega arith,
      omega arith,
      put ∙ ap (λ l. (view c.loop-places.pass).put ++ l) none ∙ append-nil (view c.loop-places.pass).put ∙ inv.4,
      all_front (HasDone c.args.queue.now) _ _ _ is inv.5,
      (λ h. let e = ap (sum_by h) taken in let s = sum_last (weight_at h) _ _ _ is in let i = inv.6 h in omega (arith, sum_by-append h (view c.loop-places.pass).taken (view p.pass).taken)),
      front_less _ _ _ _ is inv.7,
      search rules,
      refused_last _ _ _ _ _ is inv.7 c.in-Err.is,
    )

pub loop-places-preserved : goal.loop-places-preserved
loop-places-preserved g c =
    let is = c.take_last-other.ensures.items in
    let inv = c.loop-places.invariant in
    let p = c.take_last-other.result in
    let last : HasDone c.args.queue.now p = all_last (HasDone c.args.queue.now) _ _ _ is inv.5 in
    let one : (view p.pass).parts ≡ 1 = ap (λ v. v.parts) last.put in
    let none : (view p.pass).put ≡ [] = ap (λ v. v.put) last.put in
    let parts : (view c.absorb.new.pass).parts ≡ (view c.loop-places.pass).parts + (view p.pass).parts = ap (λ v. v.parts) c.absorb.ensures.both in
    let put : (view c.absorb.new.pass).put ≡ (view c.loop-places.pass).put ++ (view p.pass).put = ap (λ v. v.put) c.absorb.ensures.both in
    let taken : (view c.absorb.new.pass).taken ≡ (view c.loop-places.pass).taken ++ (view p.pass).taken = ap (λ v. v.taken) c.absorb.ensures.both in
    let fine : IsOk p.outcome = subst IsOk (sym c.in_default.is) (search rules) in (
      search rules,
      search rules,
      omega arith,
      omega arith,
      put ∙ ap (λ l. (view c.loop-places.pass).put ++ l) none ∙ append-nil (view c.loop-places.pass).put ∙ inv.4,
      all_front (HasDone c.args.queue.now) _ _ _ is inv.5,
      (λ h. let e = ap (sum_by h) taken in let s = sum_last (weight_at h) _ _ _ is in let i = inv.6 h in omega (arith, sum_by-append h (view c.loop-places.pass).taken (view p.pass).taken)),
      front_less _ _ _ _ is inv.7,
      (λ none_yet rest. inv.8 none_yet (all_both (λ place. IsOk place.outcome) _ _ _ is rest fine)),
      still_first _ _ _ _ _ is inv.7 fine inv.9,
    )
