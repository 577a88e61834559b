use Rattle.std.proofs.Common.{rules, ◌≡◌, ◌∙◌, ◌+◌, ◌*◌, inl, inr, ℕ, List, [], ◌∷◌, ◌++◌, length, Option, OnOk, IfErr, refl, ap, sym, subst, arith, true≢false}
use Rattle.std.specs.Prelude.{All}
use Rattle.std.proofs.lemmas.Bool.{cases_Bool}
use Rattle.pool_model.specs.declared.entry.Entry.{Entry}
use Rattle.row_codec.specs.RowBytes.{row_bytes}
use Rattle.row_codec.specs.declared.values.Value.{Value}
use Rattle.store_api.proofs.Answered.{answered_before}
use Rattle.store_api.specs.Holdings.{Holdings, length_of}
use Rattle.store_api.specs.Signs.{Signs}
use Rattle.store_api.specs.Shapes.{IsKeyColumn}
use Rattle.store_api.specs.declared.op_err.OpErr.TheVariants.{Pool}
use Rattle.tuple_stream.specs.FamilyCalls.{Feeds}
use Rattle.tuple_stream.specs.Steps.{came}
use Rattle.tuple_stream.specs.Touches.{IsFull}
use Rattle.tuple_stream.specs.Trails.{EnteredEvents}
use Rattle.partition_stack.proofs.Sides.{own_turned}
use Rattle.partition_stack.proofs.Left.{leaves_both}
use Rattle.partition_stack.proofs.Making.{few_both}
use Rattle.partition_stack.specs.Leaving.{CameOfStore, LeavesOthers}
use Rattle.tuple_stream.specs.Families.{slots_in}
use Rattle.partition_stack.specs.Slots.{IsWant, IsWantOf, SameSlots}
use Rattle.partition_stack.specs.Stack.{Stack, over}
use Rattle.join_op.specs.Beside.{first_place}
use Rattle.join_op.specs.Operator.{IsFeeding, IsOperator, Keeps, LaidBoth, MayBeFed, Operator, bytes_of, operator, over_both}
use Rattle.join_op.specs.Stored.{left_side, right_side}
use Rattle.join_op.proofs.BothSlots.{sides_slots, want_since}
use Rattle.join_op.proofs.Calls.{left_called, right_called}
use Rattle.join_op.proofs.Enough.{IsBelowFed, below_fed, below_rested, kept_still, more_fed, some_len}
use Rattle.join_op.proofs.KeepsRows.{keeps_right, keeps_right_first, kept_beside, rested}
use Rattle.join_op.proofs.Spellable.{right_keyed, spellable}
use Rattle.join_op.proofs.operator.JoinOp.feed_right.Goals as goal
use Rattle.join_op.proofs.operator.JoinOp.feed_right.Goals.{in-Ok, in-Err-put_row}

pub invariant_of-self : goal.invariant_of-self
invariant_of-self g c =
    record {
      on_left = c.self.invariant.on_left;
      on_right = c.self.invariant.on_right;
      rests = c.rest_left.ensures.flag;
      before = λ unset. c.self.invariant.before (sym c.in-Err.ensures.unset ∙ unset);
    }

pub put_row-requires-clause-row : goal.put_row-requires-clause-row
put_row-requires-clause-row g c =
    let me = c.self.inside in
    let h : Holdings = g.St.Store.holds c.args.store.now in
    let h1 : Holdings = g.St.Store.holds c.rest_left.new.store in
    let is : IsOperator (operator me.client me.shape me.left me.right) h (g.St.Store.signs c.args.store.now) = subst (λ (o : Operator). IsOperator o h (g.St.Store.signs c.args.store.now)) (sym c.self.view_is) c.requires.op in
    let may : MayBeFed (right_side me.shape) (operator me.client me.shape me.left me.right) h c.args.row.now = subst (λ (o : Operator). MayBeFed (right_side o.shape) o h c.args.row.now) (sym c.self.view_is) c.requires.row in
    let same : length_of me.right.page_blocks h1 ≡ length_of me.left.page_blocks h = ap (λ (n : ℕ). n * h1.block_len) is.alike ∙ ap (λ (n : ℕ). me.left.page_blocks * n) c.rest_left.ensures.beside.leaves.others.block_len in
    spellable me.shape.right c.deref.result.now (length_of me.right.page_blocks h1) c.args.row.now is.shape.right
    (subst (All (IsKeyColumn me.shape.right)) (sym (c.deref.ensures.value ∙ c.self.invariant.on_right)) (right_keyed me.shape is.shape)) may.kinds
    (let short = may.short in omega (arith, same, short))

pub invariant_of-self-2 : goal.invariant_of-self-2
invariant_of-self-2 g c =
    record {
      on_left = c.self.invariant.on_left;
      on_right = c.self.invariant.on_right;
      rests = c.rest_left.ensures.flag;
      before = λ unset. absurd (true≢false (sym c.in_default.ensures.set ∙ unset));
    }

pub returns : goal.returns
returns g c =
    let me = c.self.inside in
    let h : Holdings = g.St.Store.holds c.args.store.now in
    let s : Signs = g.St.Store.signs c.args.store.now in
    let h1 : Holdings = g.St.Store.holds c.rest_left.new.store in
    let s1 : Signs = g.St.Store.signs c.rest_left.new.store in
    let is : IsOperator (operator me.client me.shape me.left me.right) h s = subst (λ (o : Operator). IsOperator o h s) (sym c.self.view_is) c.requires.op in
    let h2 : Holdings = g.St.Store.holds c.put_row.new.store in
    let s2 : Signs = g.St.Store.signs c.put_row.new.store in
    let blocks : me.right.page_blocks ≡ c.args.self.now.left.page_blocks = is.alike ∙ ap (λ (o : Operator). o.left.page_blocks) c.self.view_is in
    let left1 : Stack = c.rest_left.new.left in
    let now : Operator = operator me.client me.shape left1 c.put_row.new.parts in
    let may : MayBeFed (right_side me.shape) (operator me.client me.shape me.left me.right) h c.args.row.now = subst (λ (o : Operator). MayBeFed (right_side o.shape) o h c.args.row.now) (sym c.self.view_is) c.requires.row in
    let right2 : Stack = c.put_row.new.parts in
    let all : SameSlots me.left.page_blocks (over_both me.left me.right h s) (over_both left1 right2 h2 s2) =
    sides_slots me.left me.right left1 right2 h h1 h2 s s1 s2 is.alike c.rest_left.ensures.beside.slots c.put_row.ensures.beside.slots in
    let t = me.client.tracker in
    let row : List Value = c.args.row.now in
    let first = c.rest_left.ensures.beside in
    let beside = c.put_row.ensures.beside in
    let feeding : IsFeeding (operator me.client me.shape me.left me.right) = subst IsFeeding (sym c.self.view_is) c.requires.feeding in
    record {
      keeps = elim c.match-put_row.branch [
        | in-Ok w ↦
            let feeds : Feeds me.client.tracker (first_place (right_side me.shape).columns c.args.row.now) (row_bytes c.args.row.now ∷ []) (over me.right h1 s1) (over c.put_row.new.parts h2 s2) =
            subst (λ (more : List (List ℕ)). Feeds me.client.tracker (first_place (right_side me.shape).columns c.args.row.now) more (over me.right h1 s1) (over c.put_row.new.parts h2 s2)) (ap (λ r. came r (row_bytes c.args.row.now)) w.in-Ok.is)
            (subst (λ (columns : List ℕ). Feeds me.client.tracker (first_place columns c.args.row.now) (came c.put_row.result (row_bytes c.args.row.now)) (over me.right h1 s1) (over c.put_row.new.parts h2 s2)) (c.deref.ensures.value ∙ c.self.invariant.on_right) c.put_row.ensures.went) in
            subst (λ r. OnOk r ((start : Option (List Entry)) (lefts rights : List (List Value)) → Keeps start lefts rights c.args.self.now h s → Keeps start lefts (rights ++ c.args.row.now ∷ []) now h2 s2)) (sym w.result-is)
            (λ start lefts rights kept.
            let keeps : Keeps start lefts rights (operator me.client me.shape me.left me.right) h s = subst (λ (o : Operator). Keeps start lefts rights o h s) (sym c.self.view_is) kept in
            elim (cases_Bool me.left_rests) [
              | inl does ↦
                  let still = c.rest_left.ensures.still does in
                  let laid : EnteredEvents (LaidBoth (over left1 h1 s1) (over me.right h1 s1)) start s1.trail =
                  subst (λ (p : Stack). EnteredEvents (LaidBoth (over p h1 s1) (over me.right h1 s1)) start s1.trail) (sym still.0)
                  (subst (λ (x : Holdings). EnteredEvents (LaidBoth (over me.left x s1) (over me.right x s1)) start s1.trail) (sym still.1)
                  (subst (λ (x : Signs). EnteredEvents (LaidBoth (over me.left h x) (over me.right h x)) start x.trail) (sym still.2) keeps.laid)) in
                  keeps_right me.client me.shape me.left left1 me.right h h1 s s1 start lefts rights keeps c.rest_left.ensures.beside c.in_default.ensures.rested c.put_row.new.parts h2 s2 c.args.row.now laid
                  c.put_row.ensures.beside feeds w.in-Ok.ensures.at_end may.kinds w.in-Ok.ensures.is_row
              | inr doesnt ↦
                  keeps_right_first me.client me.shape me.left left1 me.right h h1 s s1 start lefts rights keeps c.rest_left.ensures.beside c.in_default.ensures.rested (c.self.invariant.before doesnt)
                  c.put_row.new.parts h2 s2 c.args.row.now c.put_row.ensures.beside feeds w.in-Ok.ensures.at_end may.kinds w.in-Ok.ensures.is_row
            ])
        | in-Err-put_row w ↦ subst (λ r. OnOk r ((start : Option (List Entry)) (lefts rights : List (List Value)) → Keeps start lefts rights c.args.self.now h s → Keeps start lefts (rights ++ c.args.row.now ∷ []) now h2 s2)) (sym w.result-is) tt
      ];
      op = right_called me.client me.shape c.rest_left.new.left me.right h1 (g.St.Store.holds c.put_row.new.store) s1 (g.St.Store.signs c.put_row.new.store)
          (left_called me.client me.shape me.left me.right h h1 s s1 is c.rest_left.new.left c.rest_left.ensures.beside) c.put_row.new.parts c.put_row.ensures.beside;
      feeding = search rules;
      same = search rules;
      leaves = subst (λ (t : ℕ). LeavesOthers t h h2 s s2) (ap (λ (o : Operator). o.client.tracker) c.self.view_is)
          (leaves_both me.client.tracker h (g.St.Store.holds c.rest_left.new.store) h2 s (g.St.Store.signs c.rest_left.new.store) s2 c.rest_left.ensures.beside.leaves c.put_row.ensures.beside.leaves);
      slots = subst (λ (o : Operator). slots_in (over_both left1 right2 h2 s2) ≡ slots_in (over_both o.left o.right h s)) c.self.view_is all.sum;
      cause = elim c.match-put_row.branch [
        | in-Ok w ↦ subst (λ r. IfErr r (CameOfStore c.args.self.now.left.page_blocks h2 s s2)) (sym w.result-is) tt
        | in-Err-put_row w ↦
            subst (λ r. IfErr r (CameOfStore c.args.self.now.left.page_blocks h2 s s2)) (sym w.result-is) (
              answered_before w.in-Err-put_row.e s s1 s2 c.rest_left.ensures.beside.leaves.grows w.in-Err-put_row.ensures.answers.0,
              subst (λ (n : ℕ). IsFull n h2.free_slots w.in-Err-put_row.e) blocks w.in-Err-put_row.ensures.answers.1,
            )
      ];
      few = few_both 0 1 1 (g.St.Store.signs c.args.store.now) (g.St.Store.signs c.rest_left.new.store) (g.St.Store.signs c.put_row.new.store) (omega arith) c.rest_left.ensures.made c.put_row.ensures.few;
      want = elim c.match-put_row.branch [
        | in-Ok w ↦ subst (λ r. IfErr r (IsWantOf c.args.self.now.left.page_blocks (slots_in (over_both c.args.self.now.left c.args.self.now.right h s)))) (sym w.result-is) tt
        | in-Err-put_row w ↦
            subst (λ r. IfErr r (IsWantOf c.args.self.now.left.page_blocks (slots_in (over_both c.args.self.now.left c.args.self.now.right h s)))) (sym w.result-is)
            (subst (λ (o : Operator). IsWant o.left.page_blocks (slots_in (over_both o.left o.right h s)) w.in-Err-put_row.e) c.self.view_is
            (want_since me.left.page_blocks me.right.page_blocks me.left me.right h h2 s s2 left1.streams right2.streams c.law_stack.ensures c.law_stack-2.ensures refl is.alike all is.alike w.in-Err-put_row.e w.in-Err-put_row.ensures.answers.1))
      ];
      enough = (let all : SameSlots me.left.page_blocks (over_both me.left me.right h s) (over_both left1 right2 h2 s2) = sides_slots me.left me.right left1 right2 h h1 h2 s s1 s2 is.alike first.slots beside.slots in
          elim c.match-put_row.branch [
            | in-Ok w ↦ subst (λ r. IfErr r (IsBelowFed c.args.self.now h s (λ lefts. lefts) (λ rights. rights ++ row ∷ []))) (sym w.result-is) tt
            | in-Err-put_row w ↦
                subst (λ r. IfErr r (IsBelowFed c.args.self.now h s (λ lefts. lefts) (λ rights. rights ++ row ∷ []))) (sym w.result-is)
                (subst (λ (o : Operator). IsBelowFed o h s (λ lefts. lefts) (λ rights. rights ++ row ∷ []) (Pool w.in-Err-put_row.e)) c.self.view_is
                (λ start lefts rights keeps.
                let feeds : Feeds t (first_place c.deref.result.now row) [] (over me.right h1 s1) (over right2 h2 s2) =
                subst (λ (more : List (List ℕ)). Feeds t (first_place c.deref.result.now row) more (over me.right h1 s1) (over right2 h2 s2)) (ap (λ r. came r (row_bytes row)) w.in-Err-put_row.is) c.put_row.ensures.went in
                let more = more_fed rights row in
                let long = more.0 in
                let heavy = more.1 in
                below_fed c.law_scratch.ensures.few t me.right.page_blocks me.left me.right left1 right2 h h2 s s2 all c.law_stack.ensures c.law_stack-2.ensures is.alike (beside.leaves.others.block_len ∙ first.leaves.others.block_len)
                (some_len me.left.page_blocks h.block_len is.sized (let least = c.block_len-len.ensures.least in let value = c.block_len-len.ensures.value in omega (arith, least, value))) is.alike w.in-Err-put_row.e w.in-Err-put_row.ensures.answers.1
                (left_side me.shape) (right_side me.shape) lefts rights (length lefts + length (rights ++ row ∷ [])) (bytes_of lefts + bytes_of (rights ++ row ∷ [])) (own_turned t 0 right2.streams left1.streams h2 s2 beside.own)
                (kept_beside t (left_side me.shape) lefts me.right right2 left1 h1 h2 s1 s2 beside (rested t (length me.left.streams) (left_side me.shape) lefts (over me.left h s) (over left1 h1 s1) c.in_default.ensures.rested keeps.left))
                (kept_still t (first_place c.deref.result.now row) (right_side me.shape) rights (over me.right h1 s1) (over right2 h2 s2) (inr keeps.right_ends) feeds (kept_beside t (right_side me.shape) rights me.left left1 me.right h h1 s s1 first keeps.right))
                (first.many ∙ feeding.left.sixteen) (beside.many ∙ feeding.right.sixteen) (omega (arith, long)) (omega (arith, heavy))))
          ]);
    }

pub returns-in-Err : goal.returns-in-Err
returns-in-Err g c =
    let me = c.self.inside in
    let h : Holdings = g.St.Store.holds c.args.store.now in
    let s : Signs = g.St.Store.signs c.args.store.now in
    let h1 : Holdings = g.St.Store.holds c.rest_left.new.store in
    let s1 : Signs = g.St.Store.signs c.rest_left.new.store in
    let is : IsOperator (operator me.client me.shape me.left me.right) h s = subst (λ (o : Operator). IsOperator o h s) (sym c.self.view_is) c.requires.op in
    let left1 : Stack = c.rest_left.new.left in
    let row : List Value = c.args.row.now in
    let feeding : IsFeeding (operator me.client me.shape me.left me.right) = subst IsFeeding (sym c.self.view_is) c.requires.feeding in
    record {
      keeps = search rules;
      op = left_called me.client me.shape me.left me.right h h1 s s1 is left1 c.rest_left.ensures.beside;
      feeding = search rules;
      same = search rules;
      leaves = search rules;
      slots = subst (λ (o : Operator). slots_in (over_both c.rest_left.new.left me.right h1 s1) ≡ slots_in (over_both o.left o.right h s)) c.self.view_is c.rest_left.ensures.beside.slots.sum;
      cause = search rules;
      few = search rules;
      want = subst (λ (o : Operator). IsWant o.left.page_blocks (slots_in (over_both o.left o.right h s)) c.in-Err.e) c.self.view_is
          (want_since me.left.page_blocks me.left.page_blocks me.left me.right h h1 s s1 c.rest_left.new.left.streams me.right.streams c.law_stack.ensures c.law_stack-2.ensures refl is.alike c.rest_left.ensures.beside.slots refl c.in-Err.e c.in-Err.ensures.answers.1);
      enough = subst (λ (o : Operator). IsBelowFed o h s (λ lefts. lefts) (λ rights. rights ++ row ∷ []) (Pool c.in-Err.e)) c.self.view_is
          (λ start lefts rights keeps.
          let more = more_fed rights row in
          let long = more.0 in
          let heavy = more.1 in
          below_rested c.law_scratch.ensures.few me.client.tracker me.left.page_blocks me.left me.right left1 me.right h h1 s s1 c.rest_left.ensures.beside.slots c.law_stack.ensures c.law_stack-2.ensures is.alike c.rest_left.ensures.beside.leaves.others.block_len
          (some_len me.left.page_blocks h.block_len is.sized (let least = c.block_len-len.ensures.least in let value = c.block_len-len.ensures.value in omega (arith, least, value))) refl c.in-Err.e c.in-Err.ensures.answers.1
          (left_side me.shape) (right_side me.shape) lefts rights (length lefts + length (rights ++ row ∷ [])) (bytes_of lefts + bytes_of (rights ++ row ∷ [])) is.owns keeps.left keeps.right feeding.left.sixteen feeding.right.sixteen
          c.rest_left.ensures.pages refl (omega (arith, long)) (omega (arith, heavy)));
    }

pub put_row-requires-clause-may : goal.put_row-requires-clause-may
put_row-requires-clause-may g c =
    let me = c.self.inside in
    let h : Holdings = g.St.Store.holds c.args.store.now in
    let s : Signs = g.St.Store.signs c.args.store.now in
    let h1 : Holdings = g.St.Store.holds c.rest_left.new.store in
    let s1 : Signs = g.St.Store.signs c.rest_left.new.store in
    let left1 : Stack = c.rest_left.new.left in
    let is : IsOperator (operator me.client me.shape me.left me.right) h s = subst (λ (o : Operator). IsOperator o h s) (sym c.self.view_is) c.requires.op in
    let op : IsOperator (operator me.client me.shape left1 me.right) h1 s1 = left_called me.client me.shape me.left me.right h h1 s s1 is left1 c.rest_left.ensures.beside in
    record {
      client = op.client;
      own = own_turned me.client.tracker 0 left1.streams me.right.streams h1 s1 op.owns;
      rests = c.in_default.ensures.rests;
      least =
          let len : length_of me.right.page_blocks h1 ≡ length_of left1.page_blocks h1 = ap (λ (n : ℕ). n * h1.block_len) op.alike in
          let least = op.least in
          omega (arith, least, ap (λ (n : ℕ). 20 * n) len);
    }
