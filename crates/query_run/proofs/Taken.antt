-- What takes rows, call after call.
use Rattle.std.proofs.Common.{◌≡◌, ◌∙◌, ◌*◌, ◌++◌, ℕ, List, [], Option, length, sym, ap, refl, subst, arith, append_assoc, append-nil}
use Rattle.reservation_tree.specs.declared.errors.PoolErr.{PoolErr}
use Rattle.row_codec.specs.declared.values.Kind.{Kind}
use Rattle.row_codec.specs.declared.values.Value.{Value}
use Rattle.store_api.proofs.Answered.{answered_before}
use Rattle.store_api.proofs.Growing.{grows_refl}
use Rattle.store_api.proofs.Untouched.{others_stay}
use Rattle.store_api.specs.Holdings.{Holdings}
use Rattle.store_api.specs.Signs.{Signs}
use Rattle.store_api.specs.declared.shapes.JoinShape.{JoinShape}
use Rattle.store_api.specs.declared.shapes.Shape.{Shape}
use Rattle.store_api.specs.declared.op_err.OpErr.{OpErr}
use Rattle.store_api.specs.declared.op_err.OpErr.TheVariants as op
use Rattle.partition_stack.specs.Leaving.{CameOfStore}
use Rattle.partition_stack.specs.Slots.{IsWant, IsWantOf}
use Rattle.partition_stack.proofs.Left.{leaves_both}
use Rattle.group_op.specs.Operator as group
use Rattle.join_op.specs.Operator as join
use Rattle.query_run.specs.Stopped.{StoppedBy}
use Rattle.query_run.specs.Taking.{GroupFeeds, GroupGoes, GroupStands, GroupStops, JoinGoes, JoinStands, JoinStops, LeftFeeds, RightFeeds, TakesStill}
use Rattle.query_run.proofs.Going.{goes_none, goes_then, same_none, same_then}

pub still_then : (kinds0 kinds1 kinds2 : List Kind) (extra0 extra1 extra2 page0 page1 page2 : ℕ) → TakesStill kinds0 kinds1 extra0 extra1 page0 page1 → TakesStill kinds1 kinds2 extra1 extra2 page1 page2 → TakesStill kinds0 kinds2 extra0 extra2 page0 page2
still_then kinds0 kinds1 kinds2 extra0 extra1 extra2 page0 page1 page2 first then =
    record { kinds_same = then.kinds_same ∙ first.kinds_same; extra_same = then.extra_same ∙ first.extra_same; page_same = then.page_same ∙ first.page_same }

-- ---- a grouping

pub group_feeds_none : (a : group.Operator) (h : Holdings) (s : Signs) → GroupFeeds a a [] h h s s
group_feeds_none a h s = λ start fed keeps. subst (λ rows. group.Keeps start rows a h s) (sym (append-nil fed)) keeps

pub group_feeds_then : (a b c : group.Operator) (xs ys : List (List Value)) (h0 h1 h2 : Holdings) (s0 s1 s2 : Signs) → GroupFeeds a b xs h0 h1 s0 s1 → GroupFeeds b c ys h1 h2 s1 s2 → GroupFeeds a c (xs ++ ys) h0 h2 s0 s2
group_feeds_then a b c xs ys h0 h1 h2 s0 s1 s2 first then = λ start fed keeps.
    subst (λ rows. group.Keeps start rows c h2 s2) (append_assoc fed xs ys) (then start (fed ++ xs) (first start fed keeps))

pub group_goes_none : (a : group.Operator) (h : Holdings) (s : Signs) → GroupStands a h s → GroupGoes a a h h s s
group_goes_none a h s stands = record { went = goes_none a h s stands.is; same = same_none a }

pub group_goes_then : (a b c : group.Operator) (h0 h1 h2 : Holdings) (s0 s1 s2 : Signs) → GroupGoes a b h0 h1 s0 s1 → GroupGoes b c h1 h2 s1 s2 → GroupGoes a c h0 h2 s0 s2
group_goes_then a b c h0 h1 h2 s0 s1 s2 first then =
    record { went = goes_then a b c h0 h1 h2 s0 s1 s2 first.went then.went; same = same_then a b c first.same then.same }

pub group_still : (a b : group.Operator) (h0 h1 : Holdings) (s0 s1 : Signs) → GroupGoes a b h0 h1 s0 s1
    → TakesStill a.shape.kinds b.shape.kinds (16 * length a.shape.aggs) (16 * length b.shape.aggs) (group.page_of a h0) (group.page_of b h1)
group_still a b h0 h1 s0 s1 goes = record {
  kinds_same = ap (λ (s : Shape). s.kinds) goes.same.shape;
  extra_same = ap (λ (s : Shape). 16 * length s.aggs) goes.same.shape;
  page_same = rw (goes.same.blocks, goes.went.leaves.others.block_len) refl;
}

pub group_stops : (a b : group.Operator) (h0 h1 : Holdings) (s0 s1 s2 : Signs) (e : PoolErr) → GroupGoes a b h0 h1 s0 s1 → GroupStops b h1 s1 s2 e → GroupStops a h0 s0 s2 e
group_stops a b h0 h1 s0 s1 s2 e goes stopped = record {
  answered = answered_before e s0 s1 s2 goes.went.leaves.grows stopped.answered;
  want = subst (λ t. IsWant a.parts.page_blocks t e) goes.went.slots (rw goes.same.blocks at stopped.want);
}

-- ---- a side of a join

pub join_goes_none : (a : join.Operator) (h : Holdings) (s : Signs) → JoinStands a h s → JoinGoes a a h h s s
join_goes_none a h s stands = record {
  leaves = record { others = others_stay _ h; grows = grows_refl s; reserved = omega arith; room = omega arith };
  slots = refl;
  same = record { client = refl; shape = refl; left_blocks = refl; right_blocks = refl };
}

pub join_goes_then : (a b c : join.Operator) (h0 h1 h2 : Holdings) (s0 s1 s2 : Signs) → JoinGoes a b h0 h1 s0 s1 → JoinGoes b c h1 h2 s1 s2 → JoinGoes a c h0 h2 s0 s2
join_goes_then a b c h0 h1 h2 s0 s1 s2 first then = record {
  leaves = leaves_both a.client.tracker h0 h1 h2 s0 s1 s2 first.leaves (rw first.same.client at then.leaves);
  slots = then.slots ∙ first.slots;
  same = record {
    client = then.same.client ∙ first.same.client;
    shape = then.same.shape ∙ first.same.shape;
    left_blocks = then.same.left_blocks ∙ first.same.left_blocks;
    right_blocks = then.same.right_blocks ∙ first.same.right_blocks;
  };
}

page-same : (a b : join.Operator) (h0 h1 : Holdings) (s0 s1 : Signs) → JoinGoes a b h0 h1 s0 s1 → join.page_of b h1 ≡ join.page_of a h0
page-same a b h0 h1 s0 s1 goes = rw (goes.same.left_blocks, goes.leaves.others.block_len) refl

pub left_still : (a b : join.Operator) (h0 h1 : Holdings) (s0 s1 : Signs) → JoinGoes a b h0 h1 s0 s1 → TakesStill a.shape.left b.shape.left 0 0 (join.page_of a h0) (join.page_of b h1)
left_still a b h0 h1 s0 s1 goes =
    record { kinds_same = ap (λ (s : JoinShape). s.left) goes.same.shape; extra_same = refl; page_same = page-same a b h0 h1 s0 s1 goes }

pub right_still : (a b : join.Operator) (h0 h1 : Holdings) (s0 s1 : Signs) → JoinGoes a b h0 h1 s0 s1 → TakesStill a.shape.right b.shape.right 0 0 (join.page_of a h0) (join.page_of b h1)
right_still a b h0 h1 s0 s1 goes =
    record { kinds_same = ap (λ (s : JoinShape). s.right) goes.same.shape; extra_same = refl; page_same = page-same a b h0 h1 s0 s1 goes }

pub join_stops : (a b : join.Operator) (h0 h1 : Holdings) (s0 s1 s2 : Signs) (e : PoolErr) → JoinGoes a b h0 h1 s0 s1 → JoinStops b h1 s1 s2 e → JoinStops a h0 s0 s2 e
join_stops a b h0 h1 s0 s1 s2 e goes stopped = record {
  answered = answered_before e s0 s1 s2 goes.leaves.grows stopped.answered;
  want = subst (λ t. IsWant a.left.page_blocks t e) goes.slots (rw goes.same.left_blocks at stopped.want);
}

pub left_feeds_none : (a : join.Operator) (h : Holdings) (s : Signs) → LeftFeeds a a [] h h s s
left_feeds_none a h s = λ start lefts keeps. subst (λ rows. join.Keeps start rows [] a h s) (sym (append-nil lefts)) keeps

pub left_feeds_then : (a b c : join.Operator) (xs ys : List (List Value)) (h0 h1 h2 : Holdings) (s0 s1 s2 : Signs) → LeftFeeds a b xs h0 h1 s0 s1 → LeftFeeds b c ys h1 h2 s1 s2 → LeftFeeds a c (xs ++ ys) h0 h2 s0 s2
left_feeds_then a b c xs ys h0 h1 h2 s0 s1 s2 first then = λ start lefts keeps.
    subst (λ rows. join.Keeps start rows [] c h2 s2) (append_assoc lefts xs ys) (then start (lefts ++ xs) (first start lefts keeps))

pub right_feeds_none : (a : join.Operator) (h : Holdings) (s : Signs) → RightFeeds a a [] h h s s
right_feeds_none a h s = λ start lefts rights keeps. subst (λ rows. join.Keeps start lefts rows a h s) (sym (append-nil rights)) keeps

pub right_feeds_then : (a b c : join.Operator) (xs ys : List (List Value)) (h0 h1 h2 : Holdings) (s0 s1 s2 : Signs) → RightFeeds a b xs h0 h1 s0 s1 → RightFeeds b c ys h1 h2 s1 s2 → RightFeeds a c (xs ++ ys) h0 h2 s0 s2
right_feeds_then a b c xs ys h0 h1 h2 s0 s1 s2 first then = λ start lefts rights keeps.
    subst (λ rows. join.Keeps start lefts rows c h2 s2) (append_assoc rights xs ys) (then start lefts (rights ++ xs) (first start lefts rights keeps))

-- the right side is as it was, without rows
pub no_right : (a b : join.Operator) → join.HasNoRight a → b.right ≡ a.right → join.HasNoRight b
no_right a b none same = rw same none

-- what the store answered
pub pool_stops : (blocks : ℕ) (total : Option ℕ) (h : Holdings) (before after : Signs) (why : OpErr) (e : PoolErr) → why ≡ op.Pool e → CameOfStore blocks h before after why → IsWantOf blocks total why → StoppedBy blocks total before after e
pool_stops blocks total h before after (op.Pool other) e is came want = let same : other ≡ e = cc in subst (StoppedBy blocks total before after) same (record { answered = came.0; want = want })
pool_stops blocks total h before after op.Sink e is came want = absurd came
