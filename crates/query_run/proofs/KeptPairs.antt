-- What a query that joins and groups keeps on pages before it reads it again.
use Rattle.std.proofs.Common.{◌≡◌, ◌∙◌, inl, inr, ℕ, List, ◌++◌, Option, None, Some, IfSome, ap, sym, subst, append_assoc}
use Rattle.pool_model.specs.declared.entry.Entry.{Entry}
use Rattle.row_codec.specs.declared.values.Value.{Value}
use Rattle.store_api.proofs.Growing.{grows_trans}
use Rattle.store_api.specs.Entries.{MadeThese}
use Rattle.store_api.specs.Holdings.{Holdings}
use Rattle.store_api.specs.Tokens.{ClientToken}
use Rattle.store_api.specs.declared.shapes.Shape.{Shape}
use Rattle.store_api.specs.Signs.{Grows, Signs}
use Rattle.store_api.specs.declared.shapes.JoinShape.{JoinShape}
use Rattle.tuple_stream.specs.Families.{AllClosed, Family}
use Rattle.tuple_stream.specs.Trails.{EnteredEvents, PinsFirst}
use Rattle.tuple_stream.proofs.PinsFirst.{both_pin_first, has_pin_front, pins_first_join}
use Rattle.tuple_stream.proofs.Sinces.{since_joined, since_so, since_these}
use Rattle.tuple_stream.specs.Streamed.{Streamed}
use Rattle.partition_stack.specs.Stack.{Stack, first_sixteen, over}
use Rattle.partition_stack.proofs.First.{each_empty}
use Rattle.group_op.specs.Operator.{Operator, started}
use Rattle.join_op.specs.Laid.{HoldsSides}
use Rattle.join_op.specs.Stored.{left_side}
use Rattle.query_run.specs.Joined.{HoldsRowsWhile}
use Rattle.query_run.specs.Input.{IsAccepted, IsAcceptedIn, passing, passing_in}
use Rattle.query_run.specs.Plans.{join_shape_of}
use Rattle.query_run.specs.Trail.{HoldsRows, KeptRows, KeptSides, KeptWith}
use Rattle.query_plan.specs.declared.plan.Query.{Query}
use Rattle.query_plan.specs.declared.plan.Side.TheVariants.{Right}
use Rattle.query_plan.specs.declared.plan.SidePlan.{SidePlan}
use Rattle.query_run.proofs.Around.{ending, entered-if}
use Rattle.query_run.proofs.Joining.{BothEndFirst, ended_both, leaves_behind}
use Rattle.query_run.proofs.KeptFirst.{coming}

-- ---- the join ended, and then its client

pub both_ended : (f g : Family) (maker c query bytes : ℕ) (s0 s1 s2 : Signs) → EnteredEvents (BothEndFirst f g) s0.trail s1.trail → MadeThese maker (ending c query bytes) s1 s2 → EnteredEvents (BothEndFirst f g) s0.trail s2.trail
both_ended f g maker c query bytes s0 s1 s2 ends gone =
    since_joined (BothEndFirst f g) (λ events. events ≡ ending c query bytes) (BothEndFirst f g) s0.trail s1.trail s2.trail
    (λ events next first are. ended_both f g c query bytes events next first are) ends (since_these maker (ending c query bytes) s1 s2 gone)

pub holds_while : (shape : JoinShape) (lefts rights : List (List Value)) (f g : Family) (still next : Type 0) (t0 t1 t2 : Option (List Entry)) → (still → next) → EnteredEvents (HoldsSides shape lefts rights f g still) t0 t1 → EnteredEvents (BothEndFirst f g) t1 t2
    → EnteredEvents (HoldsRowsWhile next shape lefts rights) t0 t2
holds_while shape lefts rights f g still next t0 t1 t2 so held ends =
    since_joined (HoldsSides shape lefts rights f g still) (BothEndFirst f g) (HoldsRowsWhile next shape lefts rights) t0 t1 t2
    (λ events more has end. record {
      lefts_laid = has.lefts_laid;
      rights_laid = has.rights_laid;
      later = has.later ++ more;
      split = ap (λ es. es ++ more) has.split ∙ append_assoc has.lefts_laid (has.rights_laid ++ has.later) more ∙ ap (λ es. has.lefts_laid ++ es) (append_assoc has.rights_laid has.later more);
      left = has.left;
      right = has.right;
      once = has.once;
      reads = record {
        first = pins_first_join has.later more has.reads.first (elim has.reads.pinned [ inl pin ↦ inl pin | inr closed ↦ inr (end (closed.0, closed.1)) ]);
        pinned = elim has.reads.pinned [ inl pin ↦ inl (has_pin_front has.later more pin) | inr closed ↦ inr (so closed.2) ];
      };
    })
    held ends

-- ---- and more came

pub holds_rows : (still : Type 0) (shape : JoinShape) (lefts rights : List (List Value)) (t0 t1 t2 : Option (List Entry)) → EnteredEvents (HoldsRowsWhile still shape lefts rights) t0 t1 → EnteredEvents (λ events. still → PinsFirst events) t1 t2
    → EnteredEvents (HoldsRows shape lefts rights) t0 t2
holds_rows still shape lefts rights t0 t1 t2 held ends =
    since_joined (HoldsRowsWhile still shape lefts rights) (λ events. still → PinsFirst events) (HoldsRows shape lefts rights) t0 t1 t2
    (λ events more has end. record {
      lefts_laid = has.lefts_laid;
      rights_laid = has.rights_laid;
      later = has.later ++ more;
      split = ap (λ es. es ++ more) has.split ∙ append_assoc has.lefts_laid (has.rights_laid ++ has.later) more ∙ ap (λ es. has.lefts_laid ++ es) (append_assoc has.rights_laid has.later more);
      left = has.left;
      right = has.right;
      once = has.once;
      reads = pins_first_join has.later more has.reads.first (elim has.reads.pinned [ inl pin ↦ inl pin | inr so ↦ inr (end so) ]);
    })
    held ends

-- a client came before
pub holds_came : (shape : JoinShape) (lefts rights : List (List Value)) (maker c query limit bytes : ℕ) (s0 s1 s2 : Signs) → MadeThese maker (coming c query limit bytes) s0 s1 → EnteredEvents (HoldsRows shape lefts rights) s1.trail s2.trail
    → EnteredEvents (HoldsRows shape lefts rights) s0.trail s2.trail
holds_came shape lefts rights maker c query limit bytes s0 s1 s2 came held =
    since_joined (λ events. events ≡ coming c query limit bytes) (HoldsRows shape lefts rights) (HoldsRows shape lefts rights) s0.trail s1.trail s2.trail
    (λ first events are has.
    let whole : HoldsRows shape lefts rights (coming c query limit bytes ++ events) = record {
      lefts_laid = coming c query limit bytes ++ has.lefts_laid;
      rights_laid = has.rights_laid;
      later = has.later;
      split = ap (λ es. coming c query limit bytes ++ es) has.split;
      left = leaves_behind (left_side shape) lefts c query limit bytes has.lefts_laid has.left;
      right = has.right;
      once = has.once;
      reads = has.reads;
    } in
    subst (λ es. HoldsRows shape lefts rights (es ++ events)) (sym are) whole)
    (since_these maker (coming c query limit bytes) s0 s1 came) held

-- ---- where nothing was grouped

closed_at_first : (blocks : ℕ) (h : Holdings) (signs : Signs) → AllClosed (over (first_sixteen blocks) h signs)
closed_at_first blocks h signs i s there = ap (λ (x : Streamed). x.pinned) (each_empty blocks i s there)

-- a grouping that has nothing pins no page before it leaves one, whether its groups are asked for or not
pub nothing_left : (c : ClientToken) (shape : Shape) (blocks : ℕ) (a b : Operator) (h : Holdings) (s1 s2 s3 : Signs) → Grows s1 s2 → Grows s2 s3 → (a.table ≡ None → (b ≡ a) × (s2 ≡ s1)) → (AllClosed (over b.parts h s2) → EnteredEvents PinsFirst s2.trail s3.trail)
    → EnteredEvents (λ events. (a ≡ started c blocks shape) → PinsFirst events) s1.trail s3.trail
nothing_left c shape blocks a b h s1 s2 s3 grew later quiet ends =
    entered-if (a ≡ started c blocks shape) PinsFirst s1.trail s3.trail (grows_trans s1 s2 s3 grew later).trail
    (λ is.
    let still = quiet (ap (λ (op : Operator). op.table) is) in
    let parts : b.parts ≡ first_sixteen blocks = ap (λ (op : Operator). op.parts) (still.0 ∙ is) in
    let closed : AllClosed (over b.parts h s2) = subst (λ (p : Stack). AllClosed (over p h s2)) (sym parts) (closed_at_first blocks h s2) in
    subst (λ (s : Signs). EnteredEvents PinsFirst s.trail s3.trail) still.1 (ends closed))

-- ---- both clients came before, and the second one ended behind

holds_later : (shape : JoinShape) (lefts rights : List (List Value)) (t0 t1 t2 : Option (List Entry)) → EnteredEvents (HoldsRows shape lefts rights) t0 t1 → EnteredEvents PinsFirst t1 t2 → EnteredEvents (HoldsRows shape lefts rights) t0 t2
holds_later shape lefts rights t0 t1 t2 held more =
    since_joined (HoldsRows shape lefts rights) PinsFirst (HoldsRows shape lefts rights) t0 t1 t2
    (λ events next has first. record {
      lefts_laid = has.lefts_laid;
      rights_laid = has.rights_laid;
      later = has.later ++ next;
      split = ap (λ es. es ++ next) has.split ∙ append_assoc has.lefts_laid (has.rights_laid ++ has.later) next ∙ ap (λ es. has.lefts_laid ++ es) (append_assoc has.rights_laid has.later next);
      left = has.left;
      right = has.right;
      once = has.once;
      reads = both_pin_first has.later next has.reads first;
    })
    held more

ends-quietly : (maker c query bytes : ℕ) (s0 s1 : Signs) → MadeThese maker (ending c query bytes) s0 s1 → EnteredEvents PinsFirst s0.trail s1.trail
ends-quietly maker c query bytes s0 s1 gone =
    since_so (λ events. events ≡ ending c query bytes) PinsFirst s0.trail s1.trail (λ events are. subst PinsFirst (sym are) tt) (since_these maker (ending c query bytes) s0 s1 gone)

pub kept_two : (plan : Query) (right : SidePlan) (page other : ℕ) (lefts_told rights_told : Option (List ℕ)) (maker1 c1 query1 limit1 bytes1 maker2 c2 query2 limit2 bytes2 maker3 c3 query3 bytes3 : ℕ) (s0 s1 s2 s3 s4 : Signs) → plan.right ≡ Some right
    → MadeThese maker1 (coming c1 query1 limit1 bytes1) s0 s1 → MadeThese maker2 (coming c2 query2 limit2 bytes2) s1 s2 → KeptSides plan right page lefts_told rights_told s2.trail s3.trail
    → MadeThese maker3 (ending c3 query3 bytes3) s3 s4 → page ≡ other → KeptRows plan other lefts_told rights_told s0.trail s4.trail
kept_two plan right page other lefts_told rights_told maker1 c1 query1 limit1 bytes1 maker2 c2 query2 limit2 bytes2 maker3 c3 query3 bytes3 s0 s1 s2 s3 s4 planned one two kept gone same =
    let shape = join_shape_of plan right in
    let all : EnteredEvents (HoldsRows shape kept.lefts kept.rights) s0.trail s4.trail =
    holds_came shape kept.lefts kept.rights maker1 c1 query1 limit1 bytes1 s0 s1 s4 one
    (holds_came shape kept.lefts kept.rights maker2 c2 query2 limit2 bytes2 s1 s2 s4 two
    (holds_later shape kept.lefts kept.rights s2.trail s3.trail s4.trail kept.kept (ends-quietly maker3 c3 query3 bytes3 s3 s4 gone))) in
    let sides : KeptSides plan right other lefts_told rights_told s0.trail s4.trail = record {
      lefts = kept.lefts;
      rights = kept.rights;
      lefts_read = subst (λ n. IfSome lefts_told (λ bytes. IsAccepted plan n bytes × (kept.lefts ≡ passing plan bytes))) same kept.lefts_read;
      rights_read = subst (λ n. IfSome rights_told (λ bytes. IsAcceptedIn plan Right right n bytes × (kept.rights ≡ passing_in right bytes))) same kept.rights_read;
      kept = all;
    } in
    subst (λ (o : Option SidePlan). KeptWith o plan other lefts_told rights_told s0.trail s4.trail) (sym planned) sides
