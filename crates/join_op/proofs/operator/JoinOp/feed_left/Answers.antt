use Rattle.std.proofs.Common.{rules, ◌≡◌, ◌∙◌, inr, ℕ, ◌+◌, List, [], ◌∷◌, ◌++◌, length, Option, OnOk, IfErr, refl, ap, sym, subst, arith}
use Rattle.std.specs.Prelude.{All}
use Rattle.pool_model.specs.declared.entry.Entry.{Entry}
use Rattle.row_codec.specs.declared.values.Value.{Value}
use Rattle.store_api.specs.Holdings.{Holdings, length_of}
use Rattle.store_api.specs.Signs.{Signs}
use Rattle.store_api.specs.Shapes.{IsKeyColumn}
use Rattle.store_api.specs.declared.op_err.OpErr.TheVariants.{Pool}
use Rattle.row_codec.specs.RowBytes.{row_bytes}
use Rattle.tuple_stream.specs.FamilyCalls.{Feeds}
use Rattle.tuple_stream.specs.Steps.{came}
use Rattle.tuple_stream.specs.Families.{slots_in}
use Rattle.partition_stack.specs.Slots.{IsWant, IsWantOf}
use Rattle.partition_stack.specs.Stack.{over}
use Rattle.join_op.specs.Beside.{first_place}
use Rattle.join_op.specs.Operator.{HasNoRight, IsFeeding, IsOperator, Keeps, MayBeFed, Operator, bytes_of, operator, over_both}
use Rattle.join_op.specs.Stored.{left_side, right_side}
use Rattle.join_op.proofs.BothSlots.{want_since}
use Rattle.join_op.proofs.Calls.{left_called}
use Rattle.join_op.proofs.Enough.{IsBelowFed, below_fed, kept_still, more_fed, some_len}
use Rattle.join_op.proofs.KeepsRows.{keeps_left, kept_beside}
use Rattle.join_op.proofs.Spellable.{left_keyed, spellable}
use Rattle.join_op.proofs.operator.JoinOp.feed_left.Goals as goal
use Rattle.join_op.proofs.operator.JoinOp.feed_left.Goals.{in-Ok, in-Err}

pub put_row-requires-clause-row : goal.put_row-requires-clause-row
put_row-requires-clause-row g c =
    let me = c.self.inside in
    let h : Holdings = g.St.Store.holds c.args.store.now in
    let is : IsOperator (operator me.client me.shape me.left me.right) h (g.St.Store.signs c.args.store.now) = subst (λ (o : Operator). IsOperator o h (g.St.Store.signs c.args.store.now)) (sym c.self.view_is) c.requires.op in
    let may : MayBeFed (left_side me.shape) (operator me.client me.shape me.left me.right) h c.args.row.now = subst (λ (o : Operator). MayBeFed (left_side o.shape) o h c.args.row.now) (sym c.self.view_is) c.requires.row in
    spellable me.shape.left c.deref.result.now (length_of me.left.page_blocks h) c.args.row.now is.shape.left
    (subst (All (IsKeyColumn me.shape.left)) (sym (c.deref.ensures.value ∙ c.self.invariant.on_left)) (left_keyed me.shape is.shape)) may.kinds may.short

pub returns-clause-takes : goal.returns-clause-takes
returns-clause-takes g c =
    let me = c.self.inside in
    let is : IsOperator (operator me.client me.shape me.left me.right) (g.St.Store.holds c.args.store.now) (g.St.Store.signs c.args.store.now) = subst (λ (o : Operator). IsOperator o (g.St.Store.holds c.args.store.now) (g.St.Store.signs c.args.store.now)) (sym c.self.view_is) c.requires.op in
    let h : Holdings = g.St.Store.holds c.args.store.now in
    let s : Signs = g.St.Store.signs c.args.store.now in
    let h1 : Holdings = g.St.Store.holds c.put_row.new.store in
    let s1 : Signs = g.St.Store.signs c.put_row.new.store in
    let now : Operator = operator me.client me.shape c.put_row.new.parts me.right in
    let row : List Value = c.args.row.now in
    let beside = c.put_row.ensures.beside in
    let feeding : IsFeeding (operator me.client me.shape me.left me.right) = subst IsFeeding (sym c.self.view_is) c.requires.feeding in
    let none : HasNoRight (operator me.client me.shape me.left me.right) = subst HasNoRight (sym c.self.view_is) c.requires.first in
    record {
      keeps = elim c.match-put_row.branch [
        | in-Ok w ↦
            subst (λ r. OnOk r ((start : Option (List Entry)) (lefts rights : List (List Value)) → Keeps start lefts rights c.args.self.now h s → Keeps start (lefts ++ c.args.row.now ∷ []) rights now h1 s1)) (sym w.result-is)
            (λ start lefts rights keeps.
            keeps_left me.client me.shape me.left me.right h s start lefts rights (subst (λ (o : Operator). Keeps start lefts rights o h s) (sym c.self.view_is) keeps)
            c.put_row.new.parts h1 s1 c.args.row.now (subst HasNoRight (sym c.self.view_is) c.requires.first) c.put_row.ensures.beside
            (subst (λ (more : List (List ℕ)). Feeds me.client.tracker (first_place (left_side me.shape).columns c.args.row.now) more (over me.left h s) (over c.put_row.new.parts h1 s1)) (ap (λ r. came r (row_bytes c.args.row.now)) w.in-Ok.is)
            (subst (λ (columns : List ℕ). Feeds me.client.tracker (first_place columns c.args.row.now) (came c.put_row.result (row_bytes c.args.row.now)) (over me.left h s) (over c.put_row.new.parts h1 s1)) (c.deref.ensures.value ∙ c.self.invariant.on_left) c.put_row.ensures.went))
            w.in-Ok.ensures.at_end (subst (λ (o : Operator). MayBeFed (left_side o.shape) o h c.args.row.now) (sym c.self.view_is) c.requires.row).kinds w.in-Ok.ensures.is_row)
        | in-Err w ↦ subst (λ r. OnOk r ((start : Option (List Entry)) (lefts rights : List (List Value)) → Keeps start lefts rights c.args.self.now h s → Keeps start (lefts ++ c.args.row.now ∷ []) rights now h1 s1)) (sym w.result-is) tt
      ];
      op = left_called me.client me.shape me.left me.right (g.St.Store.holds c.args.store.now) (g.St.Store.holds c.put_row.new.store) (g.St.Store.signs c.args.store.now) (g.St.Store.signs c.put_row.new.store) is c.put_row.new.parts c.put_row.ensures.beside;
      feeding = search rules;
      same = search rules;
      leaves = search rules;
      slots = subst (λ (o : Operator). slots_in (over_both c.put_row.new.parts me.right h1 s1) ≡ slots_in (over_both o.left o.right h s)) c.self.view_is c.put_row.ensures.beside.slots.sum;
      cause = search rules;
      few = search rules;
      want = (let is : IsOperator (operator me.client me.shape me.left me.right) h s = subst (λ (o : Operator). IsOperator o h s) (sym c.self.view_is) c.requires.op in
          elim c.match-put_row.branch [
            | in-Ok w ↦ subst (λ r. IfErr r (IsWantOf c.args.self.now.left.page_blocks (slots_in (over_both c.args.self.now.left c.args.self.now.right h s)))) (sym w.result-is) tt
            | in-Err w ↦
                subst (λ r. IfErr r (IsWantOf c.args.self.now.left.page_blocks (slots_in (over_both c.args.self.now.left c.args.self.now.right h s)))) (sym w.result-is)
                (subst (λ (o : Operator). IsWant o.left.page_blocks (slots_in (over_both o.left o.right h s)) w.in-Err.e) c.self.view_is
                (want_since me.left.page_blocks me.left.page_blocks me.left me.right h h1 s s1 c.put_row.new.parts.streams me.right.streams c.law_stack.ensures c.law_stack-2.ensures refl is.alike c.put_row.ensures.beside.slots refl w.in-Err.e w.in-Err.ensures.answers.1))
          ]);
      enough = (let is : IsOperator (operator me.client me.shape me.left me.right) h s = subst (λ (o : Operator). IsOperator o h s) (sym c.self.view_is) c.requires.op in
          elim c.match-put_row.branch [
            | in-Ok w ↦ subst (λ r. IfErr r (IsBelowFed c.args.self.now h s (λ lefts. lefts ++ row ∷ []) (λ rights. rights))) (sym w.result-is) tt
            | in-Err w ↦
                subst (λ r. IfErr r (IsBelowFed c.args.self.now h s (λ lefts. lefts ++ row ∷ []) (λ rights. rights))) (sym w.result-is)
                (subst (λ (o : Operator). IsBelowFed o h s (λ lefts. lefts ++ row ∷ []) (λ rights. rights) (Pool w.in-Err.e)) c.self.view_is
                (λ start lefts rights keeps.
                let feeds : Feeds me.client.tracker (first_place c.deref.result.now row) [] (over me.left h s) (over c.put_row.new.parts h1 s1) =
                subst (λ (more : List (List ℕ)). Feeds me.client.tracker (first_place c.deref.result.now row) more (over me.left h s) (over c.put_row.new.parts h1 s1)) (ap (λ r. came r (row_bytes row)) w.in-Err.is) c.put_row.ensures.went in
                let more = more_fed lefts row in
                let long = more.0 in
                let heavy = more.1 in
                below_fed c.law_scratch.ensures.few me.client.tracker me.left.page_blocks me.left me.right c.put_row.new.parts me.right h h1 s s1 beside.slots c.law_stack.ensures c.law_stack-2.ensures is.alike beside.leaves.others.block_len
                (some_len me.left.page_blocks h.block_len is.sized (let least = c.block_len-len.ensures.least in let value = c.block_len-len.ensures.value in omega (arith, least, value))) refl w.in-Err.e w.in-Err.ensures.answers.1
                (left_side me.shape) (right_side me.shape) lefts rights (length (lefts ++ row ∷ []) + length rights) (bytes_of (lefts ++ row ∷ []) + bytes_of rights) beside.own
                (kept_still me.client.tracker (first_place c.deref.result.now row) (left_side me.shape) lefts (over me.left h s) (over c.put_row.new.parts h1 s1) (inr (keeps.left_ends none)) feeds keeps.left)
                (kept_beside me.client.tracker (right_side me.shape) rights me.left c.put_row.new.parts me.right h h1 s s1 beside keeps.right)
                (beside.many ∙ feeding.left.sixteen) feeding.right.sixteen (omega (arith, long)) (omega (arith, heavy))))
          ]);
    }
