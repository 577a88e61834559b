use Rattle.std.proofs.Common.{◌≡◌, ◌+◌, ◌-◌, ℕ, true, false, min, refl, ap, sym, ◌∙◌, arith}
use Rattle.index_list.specs.Listing.{Listing, list_with, without}
use Rattle.sub_alloc.specs.Rules.{begin_of, is_class, other_half}
use Rattle.sub_alloc.proofs.Looks.{begin_aligned, begin_in, joined_next, joined_stop, other_in}
use Rattle.sub_alloc.proofs.shelves.join.Goals as goal

pub is_free-requires : goal.is_free-requires
is_free-requires c =
    let inv = c.loop-class.invariant in
    let w = c.requires.whole in
    let inside = other_in c.args.classes c.loop-class.class c.loop-class.place inv.aligned.0 w.0 c.loop-class.free.nodes c.loop-class-test.true inv.aligned.1 (inv.nodes ∙ w.1) inv.inside in
    omega (arith, inside, c.other_half-other.ensures)

pub returns-then-not-is_free : goal.returns-then-not-is_free
returns-then-not-is_free c =
    let t = c.loop-class.free in
    let is : is_class c.loop-class.class (list_with (other_half c.loop-class.class c.loop-class.place) t) ≡ false =
    sym (ap (λ (o : ℕ). is_class c.loop-class.class (list_with o t)) c.other_half-other.ensures) ∙ sym c.is_free.ensures ∙ c.if-not-is_free.true
    in
    sym (joined_stop (c.args.classes - 1 - c.loop-class.class) c.loop-class.class c.loop-class.place t is) ∙ c.loop-class.invariant.same

pub loop-class-preserved : goal.loop-class-preserved
loop-class-preserved c =
    let inv = c.loop-class.invariant in
    let t = c.loop-class.free in
    let is : is_class c.loop-class.class (list_with (other_half c.loop-class.class c.loop-class.place) t) ≡ true =
    sym (ap (λ (o : ℕ). is_class c.loop-class.class (list_with o t)) c.other_half-other.ensures) ∙ sym c.is_free.ensures ∙ c.if-not-is_free.false
    in
    let place_is : c.min-place.result ≡ begin_of c.loop-class.class c.loop-class.place = c.min-place.ensures ∙ ap (min c.loop-class.place) c.other_half-other.ensures in
    let free_is : c.remove.new.self ≡ without (other_half c.loop-class.class c.loop-class.place) t = c.remove.ensures ∙ ap (λ (o : ℕ). without o t) c.other_half-other.ensures in
    let nodes : c.remove.new.self.nodes ≡ t.nodes = ap (λ (u : Listing). u.nodes) free_is in
    let low = begin_in c.loop-class.class c.loop-class.place t.nodes inv.inside in
    let b = begin_aligned c.loop-class.class c.loop-class.place inv.aligned.0 inv.aligned.1 in
    record {
      below = c.loop-class-test.true;
      inside = omega (arith, low, place_is, nodes);
      nodes = nodes ∙ inv.nodes;
      aligned = (b.0, place_is ∙ b.1);
      same = joined_next c.args.classes c.loop-class.class c.loop-class.place (c.loop-class.class + 1) c.min-place.result t c.remove.new.self c.loop-class-test.true refl place_is free_is is ∙ inv.same;
    }
