use Rattle.std.proofs.Common.{◌≡◌, ◌-◌, ◌+◌, ◌∷◌, ◌<◌, ◌≤◌, All, IfErr, IfSome, IsOk, IsNone, [], arith, ap, length, rules, slice_index_or, subst, sum_by, sym, ◌∙◌}
use Rattle.crossbeam_queue.specs.Passes.{view}
use Rattle.fragments.specs.Balance.{tally}
use Rattle.fragments.specs.Causes.{HasLeft, IsCause, IsFirstStopped}
use Rattle.fragments.specs.Dealing.{IsDealt}
use Rattle.fragments.specs.Places.{HasDone, IsFirstFrom, IsNewPlace, weight_at}
use Rattle.fragments.specs.Running.{MayBegin, StopsAt, StopsSo}
use Rattle.fragments.proofs.Dealt.{all_left, begin_first, begin_rest, dealt, put_together}
use Rattle.fragments.proofs.Gathering.{whole}
use Rattle.fragments.proofs.Stopping.{other_stopped, own_stopped, stop_is_cause}
use Rattle.fragments.proofs.dealing.deal.Goals as goal

pub read_beside-read-requires-clause-reads : goal.read_beside-read-requires-clause-reads
read_beside-read-requires-clause-reads g c κs within =
    let op = slice_index_or c.split_at_mut-first.result.0.now 0 c.index-first-0.result in
    let beside = slice_index_or c.split_at_mut-first_beside.result.0.now 0 c.index-first_beside-0.result in
    let own : MayBegin g.J.Admits.admits g.F.Feeder.ready g.F.Feeder.admits g.F.Feeder.took g.F.Feeder.went op beside = begin_first (MayBegin g.J.Admits.admits g.F.Feeder.ready g.F.Feeder.admits g.F.Feeder.took g.F.Feeder.went) c.args.ops.now c.split_at_mut-first.result.0.now c.split_at_mut-first.result.1.now c.args.besides.now c.split_at_mut-first_beside.result.0.now c.split_at_mut-first_beside.result.1.now c.index-first-0.result c.index-first_beside-0.result c.split_at_mut-first.ensures.value c.split_at_mut-first.ensures.front_len c.split_at_mut-first_beside.ensures.value c.split_at_mut-first_beside.ensures.front_len c.requires.feeders.some c.requires.feeders.each in
    let begun : view c.begin.new.pass ≡ tally (1024 - (length c.args.ops.now - 1)) [] [] = search rules in
    let few = c.requires.feeders.few in
    let parts : (view c.begin.new.pass).parts ≡ 1024 - (length c.args.ops.now - 1) = ap (λ v. v.parts) begun in
    record { pass_of = search rules; part = omega arith; giver_ready = c.requires.giver.ready_is; admitted = c.requires.giver.admitted; may = own.may }

pub read_beside-read-requires-clause-works : goal.read_beside-read-requires-clause-works
read_beside-read-requires-clause-works g c κs within =
    let new : All (IsNewPlace c.in-Ok.queue) c.as_mut_slice.result.now = subst (λ l. All (IsNewPlace c.in-Ok.queue) l) (sym c.as_mut_slice.ensures.value) c.in-Ok-begin.ensures.new in
    let o = c.split_at_mut-first.ensures.back_len in
    let b = c.split_at_mut-first_beside.ensures.back_len in
    let same = c.requires.feeders.len in
    record {
      ops_len = omega (arith, c.in-Ok-begin.ensures.len);
      besides_len = omega (arith, c.in-Ok-begin.ensures.len);
      each = λ k p f e below.
          let place = new k p below in
          let other = begin_rest (MayBegin g.J.Admits.admits g.F.Feeder.ready g.F.Feeder.admits g.F.Feeder.took g.F.Feeder.went) c.args.ops.now c.split_at_mut-first.result.0.now c.split_at_mut-first.result.1.now c.args.besides.now c.split_at_mut-first_beside.result.0.now c.split_at_mut-first_beside.result.1.now c.split_at_mut-first.ensures.value c.split_at_mut-first.ensures.front_len c.split_at_mut-first_beside.ensures.value c.split_at_mut-first_beside.ensures.front_len c.requires.feeders.each k f e (omega (arith, c.in-Ok-begin.ensures.len)) in
          record { pass = place.pass; new = place.new; may = other.may; none = other.none; here = other.here };
    }

pub gather-refused-requires-clause-done : goal.gather-refused-requires-clause-done
gather-refused-requires-clause-done g c =
    let new : All (IsNewPlace c.in-Ok.queue) c.as_mut_slice.result.now = subst (λ l. All (IsNewPlace c.in-Ok.queue) l) (sym c.as_mut_slice.ensures.value) c.in-Ok-begin.ensures.new in
    let op = slice_index_or c.split_at_mut-first.result.0.now 0 c.index-first-0.result in
    let beside = slice_index_or c.split_at_mut-first_beside.result.0.now 0 c.index-first_beside-0.result in
    let did = c.read_beside-read.ensures.works in
    let sizes = did.places_len in
    let is = whole c.in-Ok-begin.places.len c.read_beside-read.new.places c.in-Ok-begin.places.items (omega arith) (omega arith) in
    subst (λ l. All (HasDone c.in-Ok.queue) l) (sym is) (λ k d below.
    let here = did.each k d op beside (omega arith) in
    let place = new k d (omega arith) in
    record { pass = (here.pass.0 ∙ place.pass.0, here.pass.2 ∙ place.pass.1); put = here.put })

pub returns-in-Err-clause-left : goal.returns-in-Err-clause-left
returns-in-Err-clause-left g c =
    let op = slice_index_or c.split_at_mut-first.result.0.now 0 c.index-first-0.result in
    let beside = slice_index_or c.split_at_mut-first_beside.result.0.now 0 c.index-first_beside-0.result in
    let own : MayBegin g.J.Admits.admits g.F.Feeder.ready g.F.Feeder.admits g.F.Feeder.took g.F.Feeder.went op beside = begin_first (MayBegin g.J.Admits.admits g.F.Feeder.ready g.F.Feeder.admits g.F.Feeder.took g.F.Feeder.went) c.args.ops.now c.split_at_mut-first.result.0.now c.split_at_mut-first.result.1.now c.args.besides.now c.split_at_mut-first_beside.result.0.now c.split_at_mut-first_beside.result.1.now c.index-first-0.result c.index-first_beside-0.result c.split_at_mut-first.ensures.value c.split_at_mut-first.ensures.front_len c.split_at_mut-first_beside.ensures.value c.split_at_mut-first_beside.ensures.front_len c.requires.feeders.some c.requires.feeders.each in
    let did = c.read_beside-read.ensures.works in
    let len : length c.as_mut_slice.result.now ≡ length c.split_at_mut-first.result.1.now = (let l = c.split_at_mut-first.ensures.back_len in omega (arith, c.in-Ok-begin.ensures.len)) in
    let mine = c.read_beside-read.ensures.reads.feeder op beside own.here in
    put_together (λ a b p q. HasLeft g.F.Feeder.went g.S.Giver.went c.args.giver.now a b c.read_beside-read.new.giver p q) c.args.ops.now c.split_at_mut-first.result.0.now c.split_at_mut-first.result.1.now c.read_beside-read.new.ops c.args.besides.now c.split_at_mut-first_beside.result.0.now c.split_at_mut-first_beside.result.1.now c.read_beside-read.new.besides c.index-first-0.result c.read_beside-read.new.op c.index-first_beside-0.result c.read_beside-read.new.beside c.split_at_mut-first.ensures.value c.split_at_mut-first.ensures.front_len c.split_at_mut-first_beside.ensures.value c.split_at_mut-first_beside.ensures.front_len
    (all_left g.F.Feeder.took g.F.Feeder.went g.F.Feeder.stops g.S.Giver.gave g.S.Giver.ended g.S.Giver.went _ _ op _ beside _ _ _ _ _ _ _ (c.read_beside-read.ensures.reads.giver_left c.args.giver.now c.requires.giver.here) mine did len)

pub returns-in-Err-clause-cause : goal.returns-in-Err-clause-cause
returns-in-Err-clause-cause g c =
    let op = slice_index_or c.split_at_mut-first.result.0.now 0 c.index-first-0.result in
    let beside = slice_index_or c.split_at_mut-first_beside.result.0.now 0 c.index-first_beside-0.result in
    let own : MayBegin g.J.Admits.admits g.F.Feeder.ready g.F.Feeder.admits g.F.Feeder.took g.F.Feeder.went op beside = begin_first (MayBegin g.J.Admits.admits g.F.Feeder.ready g.F.Feeder.admits g.F.Feeder.took g.F.Feeder.went) c.args.ops.now c.split_at_mut-first.result.0.now c.split_at_mut-first.result.1.now c.args.besides.now c.split_at_mut-first_beside.result.0.now c.split_at_mut-first_beside.result.1.now c.index-first-0.result c.index-first_beside-0.result c.split_at_mut-first.ensures.value c.split_at_mut-first.ensures.front_len c.split_at_mut-first_beside.ensures.value c.split_at_mut-first_beside.ensures.front_len c.requires.feeders.some c.requires.feeders.each in
    let feeding = StopsSo g.F.Feeder.went g.F.Feeder.stops op beside c.read_beside-read.new.beside in
    let why = subst (λ r. IfErr r (StopsAt g.S.Giver.went g.S.Giver.stops c.args.giver.now c.read_beside-read.new.giver feeding)) c.in-Err.is c.read_beside-read.ensures.reads.cause in
    put_together (λ a b p q. IsCause g.F.Feeder.took g.F.Feeder.stops g.S.Giver.stops c.args.giver.now a b c.read_beside-read.new.giver p q c.failure_of.result) c.args.ops.now c.split_at_mut-first.result.0.now c.split_at_mut-first.result.1.now c.read_beside-read.new.ops c.args.besides.now c.split_at_mut-first_beside.result.0.now c.split_at_mut-first_beside.result.1.now c.read_beside-read.new.besides c.index-first-0.result c.read_beside-read.new.op c.index-first_beside-0.result c.read_beside-read.new.beside c.split_at_mut-first.ensures.value c.split_at_mut-first.ensures.front_len c.split_at_mut-first_beside.ensures.value c.split_at_mut-first_beside.ensures.front_len
    (subst (λ f. IsCause g.F.Feeder.took g.F.Feeder.stops g.S.Giver.stops c.args.giver.now (op ∷ c.split_at_mut-first.result.1.now) (beside ∷ c.split_at_mut-first_beside.result.1.now) c.read_beside-read.new.giver (c.read_beside-read.new.op ∷ c.read_beside-read.new.ops) (c.read_beside-read.new.beside ∷ c.read_beside-read.new.besides) f) (sym c.failure_of.ensures)
    (stop_is_cause g.S.Giver.went g.S.Giver.stops c.args.giver.now c.read_beside-read.new.giver feeding (λ f. IsCause g.F.Feeder.took g.F.Feeder.stops g.S.Giver.stops c.args.giver.now (op ∷ c.split_at_mut-first.result.1.now) (beside ∷ c.split_at_mut-first_beside.result.1.now) c.read_beside-read.new.giver (c.read_beside-read.new.op ∷ c.read_beside-read.new.ops) (c.read_beside-read.new.beside ∷ c.read_beside-read.new.besides) f) c.in-Err.stop why c.requires.giver.here (λ q w. w)
    (λ e w. own_stopped g.F.Feeder.took g.F.Feeder.went g.F.Feeder.stops _ _ _ _ _ _ _ _ _ (w op beside own.here))))

pub returns-in-Some-clause-left : goal.returns-in-Some-clause-left
returns-in-Some-clause-left g c =
    let op = slice_index_or c.split_at_mut-first.result.0.now 0 c.index-first-0.result in
    let beside = slice_index_or c.split_at_mut-first_beside.result.0.now 0 c.index-first_beside-0.result in
    let own : MayBegin g.J.Admits.admits g.F.Feeder.ready g.F.Feeder.admits g.F.Feeder.took g.F.Feeder.went op beside = begin_first (MayBegin g.J.Admits.admits g.F.Feeder.ready g.F.Feeder.admits g.F.Feeder.took g.F.Feeder.went) c.args.ops.now c.split_at_mut-first.result.0.now c.split_at_mut-first.result.1.now c.args.besides.now c.split_at_mut-first_beside.result.0.now c.split_at_mut-first_beside.result.1.now c.index-first-0.result c.index-first_beside-0.result c.split_at_mut-first.ensures.value c.split_at_mut-first.ensures.front_len c.split_at_mut-first_beside.ensures.value c.split_at_mut-first_beside.ensures.front_len c.requires.feeders.some c.requires.feeders.each in
    let did = c.read_beside-read.ensures.works in
    let len : length c.as_mut_slice.result.now ≡ length c.split_at_mut-first.result.1.now = (let l = c.split_at_mut-first.ensures.back_len in omega (arith, c.in-Ok-begin.ensures.len)) in
    let mine = c.read_beside-read.ensures.reads.feeder op beside own.here in
    put_together (λ a b p q. HasLeft g.F.Feeder.went g.S.Giver.went c.args.giver.now a b c.read_beside-read.new.giver p q) c.args.ops.now c.split_at_mut-first.result.0.now c.split_at_mut-first.result.1.now c.read_beside-read.new.ops c.args.besides.now c.split_at_mut-first_beside.result.0.now c.split_at_mut-first_beside.result.1.now c.read_beside-read.new.besides c.index-first-0.result c.read_beside-read.new.op c.index-first_beside-0.result c.read_beside-read.new.beside c.split_at_mut-first.ensures.value c.split_at_mut-first.ensures.front_len c.split_at_mut-first_beside.ensures.value c.split_at_mut-first_beside.ensures.front_len
    (all_left g.F.Feeder.took g.F.Feeder.went g.F.Feeder.stops g.S.Giver.gave g.S.Giver.ended g.S.Giver.went _ _ op _ beside _ _ _ _ _ _ _ (c.read_beside-read.ensures.reads.giver_left c.args.giver.now c.requires.giver.here) mine did len)

pub returns-in-Some-clause-cause : goal.returns-in-Some-clause-cause
returns-in-Some-clause-cause g c =
    let op = slice_index_or c.split_at_mut-first.result.0.now 0 c.index-first-0.result in
    let beside = slice_index_or c.split_at_mut-first_beside.result.0.now 0 c.index-first_beside-0.result in
    let own : MayBegin g.J.Admits.admits g.F.Feeder.ready g.F.Feeder.admits g.F.Feeder.took g.F.Feeder.went op beside = begin_first (MayBegin g.J.Admits.admits g.F.Feeder.ready g.F.Feeder.admits g.F.Feeder.took g.F.Feeder.went) c.args.ops.now c.split_at_mut-first.result.0.now c.split_at_mut-first.result.1.now c.args.besides.now c.split_at_mut-first_beside.result.0.now c.split_at_mut-first_beside.result.1.now c.index-first-0.result c.index-first_beside-0.result c.split_at_mut-first.ensures.value c.split_at_mut-first.ensures.front_len c.split_at_mut-first_beside.ensures.value c.split_at_mut-first_beside.ensures.front_len c.requires.feeders.some c.requires.feeders.each in
    let did = c.read_beside-read.ensures.works in
    let len : length c.as_mut_slice.result.now ≡ length c.split_at_mut-first.result.1.now = (let l = c.split_at_mut-first.ensures.back_len in omega (arith, c.in-Ok-begin.ensures.len)) in
    let sizes = did.places_len in
    let is = whole c.in-Ok-begin.places.len c.read_beside-read.new.places c.in-Ok-begin.places.items (omega arith) (omega arith) in
    let begun : view c.begin.new.pass ≡ tally (1024 - (length c.args.ops.now - 1)) [] [] = search rules in
    let some : IfSome c.gather-refused.result (λ e. IsFirstFrom 0 e c.read_beside-read.new.places) = subst (λ l. IfSome c.gather-refused.result (λ e. IsFirstFrom 0 e l)) is c.gather-refused.ensures.some in
    let first = subst (λ o. IfSome o (λ e. IsFirstFrom 0 e c.read_beside-read.new.places)) c.in-Some.is some in
    let none : g.F.Feeder.took op beside op beside (view c.begin.new.pass).taken = subst (g.F.Feeder.took op beside op beside) (sym (ap (λ v. v.taken) begun)) own.none in
    put_together (λ a b p q. IsFirstStopped g.F.Feeder.took g.F.Feeder.stops a b p q c.in-Some.e) c.args.ops.now c.split_at_mut-first.result.0.now c.split_at_mut-first.result.1.now c.read_beside-read.new.ops c.args.besides.now c.split_at_mut-first_beside.result.0.now c.split_at_mut-first_beside.result.1.now c.read_beside-read.new.besides c.index-first-0.result c.read_beside-read.new.op c.index-first_beside-0.result c.read_beside-read.new.beside c.split_at_mut-first.ensures.value c.split_at_mut-first.ensures.front_len c.split_at_mut-first_beside.ensures.value c.split_at_mut-first_beside.ensures.front_len
    (other_stopped g.F.Feeder.took g.F.Feeder.went g.F.Feeder.stops _ _ _ _ _ _ _ _ _ _ _ _ (c.in_default-read.ensures.reads.fed op beside none) did len first)

pub returns-in-Ok-take_rest-clause-ok : goal.returns-in-Ok-take_rest-clause-ok
returns-in-Ok-take_rest-clause-ok g c =
    let op = slice_index_or c.split_at_mut-first.result.0.now 0 c.index-first-0.result in
    let beside = slice_index_or c.split_at_mut-first_beside.result.0.now 0 c.index-first_beside-0.result in
    let own : MayBegin g.J.Admits.admits g.F.Feeder.ready g.F.Feeder.admits g.F.Feeder.took g.F.Feeder.went op beside = begin_first (MayBegin g.J.Admits.admits g.F.Feeder.ready g.F.Feeder.admits g.F.Feeder.took g.F.Feeder.went) c.args.ops.now c.split_at_mut-first.result.0.now c.split_at_mut-first.result.1.now c.args.besides.now c.split_at_mut-first_beside.result.0.now c.split_at_mut-first_beside.result.1.now c.index-first-0.result c.index-first_beside-0.result c.split_at_mut-first.ensures.value c.split_at_mut-first.ensures.front_len c.split_at_mut-first_beside.ensures.value c.split_at_mut-first_beside.ensures.front_len c.requires.feeders.some c.requires.feeders.each in
    let did = c.read_beside-read.ensures.works in
    let len : length c.as_mut_slice.result.now ≡ length c.split_at_mut-first.result.1.now = (let l = c.split_at_mut-first.ensures.back_len in omega (arith, c.in-Ok-begin.ensures.len)) in
    let sizes = did.places_len in
    let is = whole c.in-Ok-begin.places.len c.read_beside-read.new.places c.in-Ok-begin.places.items (omega arith) (omega arith) in
    let begun : view c.begin.new.pass ≡ tally (1024 - (length c.args.ops.now - 1)) [] [] = search rules in
    let none : IsNone c.gather-refused.result = search rules in
    let fine : All (λ p. IsOk p.outcome) c.read_beside-read.new.places = subst (λ l. All (λ p. IsOk p.outcome) l) is (c.gather-refused.ensures.none none) in
    let weight : (h : _) → sum_by h (view c.gather-refused.new.pass).taken ≡ sum_by h (view c.read_beside-read.new.pass).taken + sum_by (weight_at h) c.read_beside-read.new.places = λ h. c.gather-refused.ensures.taken h ∙ ap (λ l. sum_by h (view c.read_beside-read.new.pass).taken + sum_by (weight_at h) l) is in
    put_together (λ a b p q. IsDealt g.F.Feeder.took g.S.Giver.ended c.args.giver.now a b c.read_beside-read.new.giver p q) c.args.ops.now c.split_at_mut-first.result.0.now c.split_at_mut-first.result.1.now c.read_beside-read.new.ops c.args.besides.now c.split_at_mut-first_beside.result.0.now c.split_at_mut-first_beside.result.1.now c.read_beside-read.new.besides c.index-first-0.result c.take_rest.new.op c.index-first_beside-0.result c.take_rest.new.beside c.split_at_mut-first.ensures.value c.split_at_mut-first.ensures.front_len c.split_at_mut-first_beside.ensures.value c.split_at_mut-first_beside.ensures.front_len
    (dealt g.F.Feeder.took g.F.Feeder.went g.F.Feeder.stops g.S.Giver.gave g.S.Giver.ended
    (view c.begin.new.pass) (view c.read_beside-read.new.pass) (view c.gather-refused.new.pass) (view c.take_rest.new.pass) (1024 - (length c.args.ops.now - 1))
    c.args.giver.now c.read_beside-read.new.giver op c.read_beside-read.new.op c.take_rest.new.op beside c.read_beside-read.new.beside c.take_rest.new.beside
    c.as_mut_slice.result.now c.read_beside-read.new.places c.split_at_mut-first.result.1.now c.read_beside-read.new.ops c.split_at_mut-first_beside.result.1.now c.read_beside-read.new.besides
    begun c.requires.giver.none own.none (search rules) (search rules) did len fine c.gather-refused.ensures.put weight c.take_rest.ensures.put (search rules) (search rules))

pub returns-in-Ok-take_rest-clause-left : goal.returns-in-Ok-take_rest-clause-left
returns-in-Ok-take_rest-clause-left g c =
    let op = slice_index_or c.split_at_mut-first.result.0.now 0 c.index-first-0.result in
    let beside = slice_index_or c.split_at_mut-first_beside.result.0.now 0 c.index-first_beside-0.result in
    let own : MayBegin g.J.Admits.admits g.F.Feeder.ready g.F.Feeder.admits g.F.Feeder.took g.F.Feeder.went op beside = begin_first (MayBegin g.J.Admits.admits g.F.Feeder.ready g.F.Feeder.admits g.F.Feeder.took g.F.Feeder.went) c.args.ops.now c.split_at_mut-first.result.0.now c.split_at_mut-first.result.1.now c.args.besides.now c.split_at_mut-first_beside.result.0.now c.split_at_mut-first_beside.result.1.now c.index-first-0.result c.index-first_beside-0.result c.split_at_mut-first.ensures.value c.split_at_mut-first.ensures.front_len c.split_at_mut-first_beside.ensures.value c.split_at_mut-first_beside.ensures.front_len c.requires.feeders.some c.requires.feeders.each in
    let did = c.read_beside-read.ensures.works in
    let len : length c.as_mut_slice.result.now ≡ length c.split_at_mut-first.result.1.now = (let l = c.split_at_mut-first.ensures.back_len in omega (arith, c.in-Ok-begin.ensures.len)) in
    let mine = c.read_beside-read.ensures.reads.feeder op beside own.here in
    put_together (λ a b p q. HasLeft g.F.Feeder.went g.S.Giver.went c.args.giver.now a b c.read_beside-read.new.giver p q) c.args.ops.now c.split_at_mut-first.result.0.now c.split_at_mut-first.result.1.now c.read_beside-read.new.ops c.args.besides.now c.split_at_mut-first_beside.result.0.now c.split_at_mut-first_beside.result.1.now c.read_beside-read.new.besides c.index-first-0.result c.take_rest.new.op c.index-first_beside-0.result c.take_rest.new.beside c.split_at_mut-first.ensures.value c.split_at_mut-first.ensures.front_len c.split_at_mut-first_beside.ensures.value c.split_at_mut-first_beside.ensures.front_len
    (all_left g.F.Feeder.took g.F.Feeder.went g.F.Feeder.stops g.S.Giver.gave g.S.Giver.ended g.S.Giver.went _ _ op _ beside _ _ _ _ _ _ _ (c.read_beside-read.ensures.reads.giver_left c.args.giver.now c.requires.giver.here) (c.take_rest.ensures.left op beside mine) did len)

pub returns-clause-left : goal.returns-clause-left
returns-clause-left g c =
    let op = slice_index_or c.split_at_mut-first.result.0.now 0 c.index-first-0.result in
    let beside = slice_index_or c.split_at_mut-first_beside.result.0.now 0 c.index-first_beside-0.result in
    let own : MayBegin g.J.Admits.admits g.F.Feeder.ready g.F.Feeder.admits g.F.Feeder.took g.F.Feeder.went op beside = begin_first (MayBegin g.J.Admits.admits g.F.Feeder.ready g.F.Feeder.admits g.F.Feeder.took g.F.Feeder.went) c.args.ops.now c.split_at_mut-first.result.0.now c.split_at_mut-first.result.1.now c.args.besides.now c.split_at_mut-first_beside.result.0.now c.split_at_mut-first_beside.result.1.now c.index-first-0.result c.index-first_beside-0.result c.split_at_mut-first.ensures.value c.split_at_mut-first.ensures.front_len c.split_at_mut-first_beside.ensures.value c.split_at_mut-first_beside.ensures.front_len c.requires.feeders.some c.requires.feeders.each in
    let did = c.read_beside-read.ensures.works in
    let len : length c.as_mut_slice.result.now ≡ length c.split_at_mut-first.result.1.now = (let l = c.split_at_mut-first.ensures.back_len in omega (arith, c.in-Ok-begin.ensures.len)) in
    let mine = c.read_beside-read.ensures.reads.feeder op beside own.here in
    put_together (λ a b p q. HasLeft g.F.Feeder.went g.S.Giver.went c.args.giver.now a b c.read_beside-read.new.giver p q) c.args.ops.now c.split_at_mut-first.result.0.now c.split_at_mut-first.result.1.now c.read_beside-read.new.ops c.args.besides.now c.split_at_mut-first_beside.result.0.now c.split_at_mut-first_beside.result.1.now c.read_beside-read.new.besides c.index-first-0.result c.take_rest.new.op c.index-first_beside-0.result c.take_rest.new.beside c.split_at_mut-first.ensures.value c.split_at_mut-first.ensures.front_len c.split_at_mut-first_beside.ensures.value c.split_at_mut-first_beside.ensures.front_len
    (all_left g.F.Feeder.took g.F.Feeder.went g.F.Feeder.stops g.S.Giver.gave g.S.Giver.ended g.S.Giver.went _ _ op _ beside _ _ _ _ _ _ _ (c.read_beside-read.ensures.reads.giver_left c.args.giver.now c.requires.giver.here) (c.take_rest.ensures.left op beside mine) did len)

pub returns-clause-cause : goal.returns-clause-cause
returns-clause-cause g c =
    let op = slice_index_or c.split_at_mut-first.result.0.now 0 c.index-first-0.result in
    let beside = slice_index_or c.split_at_mut-first_beside.result.0.now 0 c.index-first_beside-0.result in
    let own : MayBegin g.J.Admits.admits g.F.Feeder.ready g.F.Feeder.admits g.F.Feeder.took g.F.Feeder.went op beside = begin_first (MayBegin g.J.Admits.admits g.F.Feeder.ready g.F.Feeder.admits g.F.Feeder.took g.F.Feeder.went) c.args.ops.now c.split_at_mut-first.result.0.now c.split_at_mut-first.result.1.now c.args.besides.now c.split_at_mut-first_beside.result.0.now c.split_at_mut-first_beside.result.1.now c.index-first-0.result c.index-first_beside-0.result c.split_at_mut-first.ensures.value c.split_at_mut-first.ensures.front_len c.split_at_mut-first_beside.ensures.value c.split_at_mut-first_beside.ensures.front_len c.requires.feeders.some c.requires.feeders.each in
    let here = c.read_beside-read.ensures.reads.feeder op beside own.here in
    let why = subst (λ r. IfErr r (StopsSo g.F.Feeder.went g.F.Feeder.stops c.read_beside-read.new.op c.read_beside-read.new.beside c.take_rest.new.beside)) c.in-Err-take_rest.is c.take_rest.ensures.cause in
    put_together (λ a b p q. IsFirstStopped g.F.Feeder.took g.F.Feeder.stops a b p q c.in-Err-take_rest.e) c.args.ops.now c.split_at_mut-first.result.0.now c.split_at_mut-first.result.1.now c.read_beside-read.new.ops c.args.besides.now c.split_at_mut-first_beside.result.0.now c.split_at_mut-first_beside.result.1.now c.read_beside-read.new.besides c.index-first-0.result c.take_rest.new.op c.index-first_beside-0.result c.take_rest.new.beside c.split_at_mut-first.ensures.value c.split_at_mut-first.ensures.front_len c.split_at_mut-first_beside.ensures.value c.split_at_mut-first_beside.ensures.front_len
    (own_stopped g.F.Feeder.took g.F.Feeder.went g.F.Feeder.stops _ _ _ _ _ _ _ _ _ (why op beside here))
