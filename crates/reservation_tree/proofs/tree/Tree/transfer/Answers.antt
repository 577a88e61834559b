use Rattle.std.proofs.Common.{◌≡◌, ◌-◌, ℕ, None, IsSome, IsErr, IfErr, Err, refl, ap, sym, ◌∙◌, subst, arith, rules}
use Rattle.reservation_tree.specs.Tracker.{Trackers, depth_of}
use Rattle.reservation_tree.specs.Tree.{TreeState, charge_of, with_trackers}
use Rattle.reservation_tree.specs.Change.{ancestor_of, levels_below, risen, move_to, move_refusal}
use Rattle.reservation_tree.specs.Answer.{answer, IsFrom}
use Rattle.reservation_tree.proofs.Climbs.{CanMove, move_step, none_answered, error_from, none_there, no_move, no_move_refusal, stands_above, refusal_of_move, moved_by}
use Rattle.reservation_tree.proofs.tree.Tree.transfer.Goals as goal

pub overflow_sub-falling : goal.overflow_sub-falling
overflow_sub-falling c =
    let low = stands_above c.args.self.now.trackers c.law_fits.ensures.tree c.args.src c.args.dst c.requires.live c.requires.dst_live in
    let top : depth_of c.args.self.now.trackers c.ancestor.result ≡ depth_of c.args.self.now.trackers (ancestor_of c.args.self.now.trackers c.args.src c.args.dst) = ap (depth_of c.args.self.now.trackers) c.ancestor.ensures.value in
    omega (arith, low.0, top, c.depth-top.ensures, c.depth.ensures)

pub overflow_sub-rising : goal.overflow_sub-rising
overflow_sub-rising c =
    let low = stands_above c.args.self.now.trackers c.law_fits.ensures.tree c.args.src c.args.dst c.requires.live c.requires.dst_live in
    let top : depth_of c.args.self.now.trackers c.ancestor.result ≡ depth_of c.args.self.now.trackers (ancestor_of c.args.self.now.trackers c.args.src c.args.dst) = ap (depth_of c.args.self.now.trackers) c.ancestor.ensures.value in
    omega (arith, low.1, top, c.depth-top.ensures, c.depth-2.ensures)

pub returns-in_err-check_rise-clause-itself : goal.returns-in_err-check_rise-clause-itself
returns-in_err-check_rise-clause-itself c =
    let rising : c.depth-2.result - c.depth-top.result ≡ levels_below c.args.self.now.trackers (ancestor_of c.args.self.now.trackers c.args.src c.args.dst) c.args.dst =
    ap (λ (n : ℕ). n - c.depth-top.result) c.depth-2.ensures ∙ ap (λ (n : ℕ). depth_of c.args.self.now.trackers c.args.dst - n) (c.depth-top.ensures ∙ ap (depth_of c.args.self.now.trackers) c.ancestor.ensures.value) in
    let from : IsSome (move_refusal c.args.bytes c.args.src c.args.dst c.args.self.now.trackers) × IsFrom (move_refusal c.args.bytes c.args.src c.args.dst c.args.self.now.trackers) c.in_err-check_rise.field-0.0 =
    error_from _ _ (ap answer (sym (refusal_of_move c.args.self.now.trackers c.args.bytes c.args.src c.args.dst (c.depth-2.result - c.depth-top.result) rising)) ∙ sym c.check_rise.ensures ∙ c.in_err-check_rise.was) in
    λ same. absurd (none_there _ (no_move_refusal c.args.self.now.trackers c.args.bytes c.args.src c.args.dst same) from.0)

pub returns-in_err-check_rise-clause-refused : goal.returns-in_err-check_rise-clause-refused
returns-in_err-check_rise-clause-refused c =
    let rising : c.depth-2.result - c.depth-top.result ≡ levels_below c.args.self.now.trackers (ancestor_of c.args.self.now.trackers c.args.src c.args.dst) c.args.dst =
    ap (λ (n : ℕ). n - c.depth-top.result) c.depth-2.ensures ∙ ap (λ (n : ℕ). depth_of c.args.self.now.trackers c.args.dst - n) (c.depth-top.ensures ∙ ap (depth_of c.args.self.now.trackers) c.ancestor.ensures.value) in
    let from : IsSome (move_refusal c.args.bytes c.args.src c.args.dst c.args.self.now.trackers) × IsFrom (move_refusal c.args.bytes c.args.src c.args.dst c.args.self.now.trackers) c.in_err-check_rise.field-0.0 =
    error_from _ _ (ap answer (sym (refusal_of_move c.args.self.now.trackers c.args.bytes c.args.src c.args.dst (c.depth-2.result - c.depth-top.result) rising)) ∙ sym c.check_rise.ensures ∙ c.in_err-check_rise.was) in
    let fails : IsErr c.from_residual.result = c.from_residual.ensures.0 in
    ((λ _. from.0), (λ _. fails))

pub returns-in_err-check_rise-clause-cause : goal.returns-in_err-check_rise-clause-cause
returns-in_err-check_rise-clause-cause c =
    let rising : c.depth-2.result - c.depth-top.result ≡ levels_below c.args.self.now.trackers (ancestor_of c.args.self.now.trackers c.args.src c.args.dst) c.args.dst =
    ap (λ (n : ℕ). n - c.depth-top.result) c.depth-2.ensures ∙ ap (λ (n : ℕ). depth_of c.args.self.now.trackers c.args.dst - n) (c.depth-top.ensures ∙ ap (depth_of c.args.self.now.trackers) c.ancestor.ensures.value) in
    let from : IsSome (move_refusal c.args.bytes c.args.src c.args.dst c.args.self.now.trackers) × IsFrom (move_refusal c.args.bytes c.args.src c.args.dst c.args.self.now.trackers) c.in_err-check_rise.field-0.0 =
    error_from _ _ (ap answer (sym (refusal_of_move c.args.self.now.trackers c.args.bytes c.args.src c.args.dst (c.depth-2.result - c.depth-top.result) rising)) ∙ sym c.check_rise.ensures ∙ c.in_err-check_rise.was) in
    let same : c.from_residual.result ≡ Err c.in_err-check_rise.field-0.0 = search rules in
    subst (λ r. IfErr r (IsFrom (move_refusal c.args.bytes c.args.src c.args.dst c.args.self.now.trackers))) (sym same) from.1

pub rise-requires-clause-live : goal.rise-requires-clause-live
rise-requires-clause-live c =
    let rising : c.depth-2.result - c.depth-top.result ≡ levels_below c.args.self.now.trackers (ancestor_of c.args.self.now.trackers c.args.src c.args.dst) c.args.dst =
    ap (λ (n : ℕ). n - c.depth-top.result) c.depth-2.ensures ∙ ap (λ (n : ℕ). depth_of c.args.self.now.trackers c.args.dst - n) (c.depth-top.ensures ∙ ap (depth_of c.args.self.now.trackers) c.ancestor.ensures.value) in
    let falling : c.depth.result - c.depth-top.result ≡ levels_below c.args.self.now.trackers (ancestor_of c.args.self.now.trackers c.args.src c.args.dst) c.args.src =
    ap (λ (n : ℕ). n - c.depth-top.result) c.depth.ensures ∙ ap (λ (n : ℕ). depth_of c.args.self.now.trackers c.args.src - n) (c.depth-top.ensures ∙ ap (depth_of c.args.self.now.trackers) c.ancestor.ensures.value) in
    let ready : CanMove (charge_of c.fall.new.self) c.fall.new.self.trackers (c.depth-2.result - c.depth-top.result) c.args.bytes c.args.dst =
    subst (λ (s : TreeState). CanMove (charge_of s) s.trackers (c.depth-2.result - c.depth-top.result) c.args.bytes c.args.dst) (sym c.fall.ensures)
    (move_step (charge_of c.args.self.now) c.args.self.now.trackers c.law_fits.ensures.tree c.law_fits.ensures.fits c.args.bytes c.args.src c.args.dst
    (c.depth.result - c.depth-top.result) (c.depth-2.result - c.depth-top.result) c.requires.live c.requires.dst_live falling rising c.requires.unused
    (none_answered _ (sym c.check_rise.ensures ∙ c.in_ok-check_rise.was))) in
    ready.live

pub rise-requires-clause-levels : goal.rise-requires-clause-levels
rise-requires-clause-levels c =
    let rising : c.depth-2.result - c.depth-top.result ≡ levels_below c.args.self.now.trackers (ancestor_of c.args.self.now.trackers c.args.src c.args.dst) c.args.dst =
    ap (λ (n : ℕ). n - c.depth-top.result) c.depth-2.ensures ∙ ap (λ (n : ℕ). depth_of c.args.self.now.trackers c.args.dst - n) (c.depth-top.ensures ∙ ap (depth_of c.args.self.now.trackers) c.ancestor.ensures.value) in
    let falling : c.depth.result - c.depth-top.result ≡ levels_below c.args.self.now.trackers (ancestor_of c.args.self.now.trackers c.args.src c.args.dst) c.args.src =
    ap (λ (n : ℕ). n - c.depth-top.result) c.depth.ensures ∙ ap (λ (n : ℕ). depth_of c.args.self.now.trackers c.args.src - n) (c.depth-top.ensures ∙ ap (depth_of c.args.self.now.trackers) c.ancestor.ensures.value) in
    let ready : CanMove (charge_of c.fall.new.self) c.fall.new.self.trackers (c.depth-2.result - c.depth-top.result) c.args.bytes c.args.dst =
    subst (λ (s : TreeState). CanMove (charge_of s) s.trackers (c.depth-2.result - c.depth-top.result) c.args.bytes c.args.dst) (sym c.fall.ensures)
    (move_step (charge_of c.args.self.now) c.args.self.now.trackers c.law_fits.ensures.tree c.law_fits.ensures.fits c.args.bytes c.args.src c.args.dst
    (c.depth.result - c.depth-top.result) (c.depth-2.result - c.depth-top.result) c.requires.live c.requires.dst_live falling rising c.requires.unused
    (none_answered _ (sym c.check_rise.ensures ∙ c.in_ok-check_rise.was))) in
    ready.far

pub rise-requires-clause-unused : goal.rise-requires-clause-unused
rise-requires-clause-unused c =
    let rising : c.depth-2.result - c.depth-top.result ≡ levels_below c.args.self.now.trackers (ancestor_of c.args.self.now.trackers c.args.src c.args.dst) c.args.dst =
    ap (λ (n : ℕ). n - c.depth-top.result) c.depth-2.ensures ∙ ap (λ (n : ℕ). depth_of c.args.self.now.trackers c.args.dst - n) (c.depth-top.ensures ∙ ap (depth_of c.args.self.now.trackers) c.ancestor.ensures.value) in
    let falling : c.depth.result - c.depth-top.result ≡ levels_below c.args.self.now.trackers (ancestor_of c.args.self.now.trackers c.args.src c.args.dst) c.args.src =
    ap (λ (n : ℕ). n - c.depth-top.result) c.depth.ensures ∙ ap (λ (n : ℕ). depth_of c.args.self.now.trackers c.args.src - n) (c.depth-top.ensures ∙ ap (depth_of c.args.self.now.trackers) c.ancestor.ensures.value) in
    let ready : CanMove (charge_of c.fall.new.self) c.fall.new.self.trackers (c.depth-2.result - c.depth-top.result) c.args.bytes c.args.dst =
    subst (λ (s : TreeState). CanMove (charge_of s) s.trackers (c.depth-2.result - c.depth-top.result) c.args.bytes c.args.dst) (sym c.fall.ensures)
    (move_step (charge_of c.args.self.now) c.args.self.now.trackers c.law_fits.ensures.tree c.law_fits.ensures.fits c.args.bytes c.args.src c.args.dst
    (c.depth.result - c.depth-top.result) (c.depth-2.result - c.depth-top.result) c.requires.live c.requires.dst_live falling rising c.requires.unused
    (none_answered _ (sym c.check_rise.ensures ∙ c.in_ok-check_rise.was))) in
    ready.spare

pub rise-requires-clause-fits : goal.rise-requires-clause-fits
rise-requires-clause-fits c =
    let rising : c.depth-2.result - c.depth-top.result ≡ levels_below c.args.self.now.trackers (ancestor_of c.args.self.now.trackers c.args.src c.args.dst) c.args.dst =
    ap (λ (n : ℕ). n - c.depth-top.result) c.depth-2.ensures ∙ ap (λ (n : ℕ). depth_of c.args.self.now.trackers c.args.dst - n) (c.depth-top.ensures ∙ ap (depth_of c.args.self.now.trackers) c.ancestor.ensures.value) in
    let falling : c.depth.result - c.depth-top.result ≡ levels_below c.args.self.now.trackers (ancestor_of c.args.self.now.trackers c.args.src c.args.dst) c.args.src =
    ap (λ (n : ℕ). n - c.depth-top.result) c.depth.ensures ∙ ap (λ (n : ℕ). depth_of c.args.self.now.trackers c.args.src - n) (c.depth-top.ensures ∙ ap (depth_of c.args.self.now.trackers) c.ancestor.ensures.value) in
    let ready : CanMove (charge_of c.fall.new.self) c.fall.new.self.trackers (c.depth-2.result - c.depth-top.result) c.args.bytes c.args.dst =
    subst (λ (s : TreeState). CanMove (charge_of s) s.trackers (c.depth-2.result - c.depth-top.result) c.args.bytes c.args.dst) (sym c.fall.ensures)
    (move_step (charge_of c.args.self.now) c.args.self.now.trackers c.law_fits.ensures.tree c.law_fits.ensures.fits c.args.bytes c.args.src c.args.dst
    (c.depth.result - c.depth-top.result) (c.depth-2.result - c.depth-top.result) c.requires.live c.requires.dst_live falling rising c.requires.unused
    (none_answered _ (sym c.check_rise.ensures ∙ c.in_ok-check_rise.was))) in
    ready.none

pub returns-clause-ok : goal.returns-clause-ok
returns-clause-ok c =
    let rising : c.depth-2.result - c.depth-top.result ≡ levels_below c.args.self.now.trackers (ancestor_of c.args.self.now.trackers c.args.src c.args.dst) c.args.dst =
    ap (λ (n : ℕ). n - c.depth-top.result) c.depth-2.ensures ∙ ap (λ (n : ℕ). depth_of c.args.self.now.trackers c.args.dst - n) (c.depth-top.ensures ∙ ap (depth_of c.args.self.now.trackers) c.ancestor.ensures.value) in
    let falling : c.depth.result - c.depth-top.result ≡ levels_below c.args.self.now.trackers (ancestor_of c.args.self.now.trackers c.args.src c.args.dst) c.args.src =
    ap (λ (n : ℕ). n - c.depth-top.result) c.depth.ensures ∙ ap (λ (n : ℕ). depth_of c.args.self.now.trackers c.args.src - n) (c.depth-top.ensures ∙ ap (depth_of c.args.self.now.trackers) c.ancestor.ensures.value) in
    let moved : c.rise.new.self ≡ with_trackers (move_to c.args.bytes c.args.src c.args.dst c.args.self.now.trackers) c.args.self.now =
    c.rise.ensures ∙ ap (λ (s : TreeState). with_trackers (risen (c.depth-2.result - c.depth-top.result) c.args.bytes c.args.dst s.trackers) s) c.fall.ensures
    ∙ ap (λ (m : Trackers). with_trackers m c.args.self.now) (moved_by c.args.self.now.trackers c.args.bytes c.args.src c.args.dst (c.depth.result - c.depth-top.result) (c.depth-2.result - c.depth-top.result) falling rising) in
    moved

pub returns-clause-itself : goal.returns-clause-itself
returns-clause-itself c =
    let rising : c.depth-2.result - c.depth-top.result ≡ levels_below c.args.self.now.trackers (ancestor_of c.args.self.now.trackers c.args.src c.args.dst) c.args.dst =
    ap (λ (n : ℕ). n - c.depth-top.result) c.depth-2.ensures ∙ ap (λ (n : ℕ). depth_of c.args.self.now.trackers c.args.dst - n) (c.depth-top.ensures ∙ ap (depth_of c.args.self.now.trackers) c.ancestor.ensures.value) in
    let falling : c.depth.result - c.depth-top.result ≡ levels_below c.args.self.now.trackers (ancestor_of c.args.self.now.trackers c.args.src c.args.dst) c.args.src =
    ap (λ (n : ℕ). n - c.depth-top.result) c.depth.ensures ∙ ap (λ (n : ℕ). depth_of c.args.self.now.trackers c.args.src - n) (c.depth-top.ensures ∙ ap (depth_of c.args.self.now.trackers) c.ancestor.ensures.value) in
    let moved : c.rise.new.self ≡ with_trackers (move_to c.args.bytes c.args.src c.args.dst c.args.self.now.trackers) c.args.self.now =
    c.rise.ensures ∙ ap (λ (s : TreeState). with_trackers (risen (c.depth-2.result - c.depth-top.result) c.args.bytes c.args.dst s.trackers) s) c.fall.ensures
    ∙ ap (λ (m : Trackers). with_trackers m c.args.self.now) (moved_by c.args.self.now.trackers c.args.bytes c.args.src c.args.dst (c.depth.result - c.depth-top.result) (c.depth-2.result - c.depth-top.result) falling rising) in
    λ same. (refl, moved ∙ ap (λ (m : Trackers). with_trackers m c.args.self.now) (no_move c.args.self.now.trackers c.args.bytes c.args.src c.args.dst same))

pub returns-clause-refused : goal.returns-clause-refused
returns-clause-refused c =
    let rising : c.depth-2.result - c.depth-top.result ≡ levels_below c.args.self.now.trackers (ancestor_of c.args.self.now.trackers c.args.src c.args.dst) c.args.dst =
    ap (λ (n : ℕ). n - c.depth-top.result) c.depth-2.ensures ∙ ap (λ (n : ℕ). depth_of c.args.self.now.trackers c.args.dst - n) (c.depth-top.ensures ∙ ap (depth_of c.args.self.now.trackers) c.ancestor.ensures.value) in
    let none : move_refusal c.args.bytes c.args.src c.args.dst c.args.self.now.trackers ≡ None =
    sym (refusal_of_move c.args.self.now.trackers c.args.bytes c.args.src c.args.dst (c.depth-2.result - c.depth-top.result) rising) ∙ none_answered _ (sym c.check_rise.ensures ∙ c.in_ok-check_rise.was) in
    ((λ no. cc), (λ some. absurd (none_there _ none some)))
