-- Traces are cut and grow as the histories that have them.
use Rattle.std.proofs.Common.{◌≡◌, List, [], ◌∷◌, ◌++◌, refl, ap, ◌∙◌, subst}
use Rattle.std.specs.List.{AllZip}
use Rattle.std.proofs.lemmas.List.{map_push}
use Rattle.pool_model.specs.declared.entry.Entry.{Entry}
use Rattle.pool_model.specs.declared.skeleton.Skeleton.{Skeleton}
use Rattle.pool_model.specs.State.{Opening}
use Rattle.pool_model.specs.MayFollow.{MayFollow}
use Rattle.pool_model.specs.Legal.{Follow, state_after, IsLegal}
use Rattle.pool_model.specs.Traces.{skeleton_of, skeletons, HasTrace, IsLegalTrace}
use Rattle.pool_model.specs.TraceLaws.{LegalHistoriesHaveTraces, TracesSkipNothing, TraceFronts, TracesGrow, TracesFit}
use Rattle.pool_model.proofs.Fronts.{legal_fronts, legal_grows, legal_grows_so}
use Rattle.pool_model.proofs.Kept.{legal_fits_trackers, legal_fits_clients, legal_fits_memory}

-- a history in two parts, each with its part of the trace
pub record Cut (h : List Entry) (front more : List Skeleton) : Type 0 where
  pub first : List Entry
  pub rest : List Entry
  pub whole : h ≡ first ++ rest
  pub of_front : skeletons first ≡ front
  pub of_more : skeletons rest ≡ more

pub cut : (h : List Entry) (front more : List Skeleton) → skeletons h ≡ front ++ more → Cut h front more
cut h [] more is = record { first = []; rest = h; whole = refl; of_front = refl; of_more = is }
cut [] (k ∷ front) more is = cc
cut (e ∷ h) (k ∷ front) more is =
    let head : skeleton_of e ≡ k = cc in
    let tail : skeletons h ≡ front ++ more = cc in
    let c : Cut h front more = cut h front more tail in
    record { first = e ∷ c.first; rest = c.rest; whole = ap (λ (t : List Entry). e ∷ t) c.whole; of_front = cc (c.of_front, head); of_more = c.of_more }

-- one skeleton is left by one entry
pub record IsOne (es : List Entry) (k : Skeleton) : Type 0 where
  pub entry : Entry
  pub is : es ≡ entry ∷ []
  pub same : skeleton_of entry ≡ k

pub only_one : (es : List Entry) (k : Skeleton) → skeletons es ≡ k ∷ [] → IsOne es k
only_one [] k is = cc
only_one (e ∷ []) k is = record { entry = e; is = refl; same = cc }
only_one (e ∷ f ∷ es) k is = cc

pub trace_fronts : TraceFronts
trace_fronts o front more legal =
    let c : Cut legal.0 front more = cut legal.0 front more legal.1.same in
    (c.first, record { legal = legal_fronts o c.first c.rest (subst (λ (h : List Entry). IsLegal o h) c.whole legal.1.legal); same = c.of_front })

-- a history that has the longer trace is one that has the shorter, and an entry that may follow it
pub record Ends (o : Opening) (trace : List Skeleton) (k : Skeleton) (h : List Entry) : Type 0 where
  pub before : List Entry
  pub entry : Entry
  pub whole : h ≡ before ++ entry ∷ []
  pub has : HasTrace o before trace
  pub same : skeleton_of entry ≡ k
  pub may : MayFollow before (state_after o before) entry

pub ends : (o : Opening) (trace : List Skeleton) (k : Skeleton) (h : List Entry) → HasTrace o h (trace ++ k ∷ []) → Ends o trace k h
ends o trace k h has =
    let c : Cut h trace (k ∷ []) = cut h trace (k ∷ []) has.same in
    let one : IsOne c.rest k = only_one c.rest k c.of_more in
    let whole : h ≡ c.first ++ one.entry ∷ [] = c.whole ∙ ap (λ (t : List Entry). c.first ++ t) one.is in
    let legal : IsLegal o (c.first ++ one.entry ∷ []) = subst (λ (g : List Entry). IsLegal o g) whole has.legal in
    let follow : Follow c.first (state_after o c.first) (one.entry ∷ []) = legal_grows_so o c.first (one.entry ∷ []) legal in
    record {
      before = c.first;
      entry = one.entry;
      whole = whole;
      has = record { legal = legal_fronts o c.first (one.entry ∷ []) legal; same = c.of_front };
      same = one.same;
      may = follow.0;
    }

-- and such an entry makes it longer
pub grown_by : (o : Opening) (trace : List Skeleton) (h : List Entry) (e : Entry) → HasTrace o h trace → MayFollow h (state_after o h) e → HasTrace o (h ++ e ∷ []) (trace ++ skeleton_of e ∷ [])
grown_by o trace h e has may = record {
  legal = legal_grows o h (e ∷ []) has.legal (may, tt);
  same = map_push skeleton_of h e ∙ ap (λ (t : List Skeleton). t ++ skeleton_of e ∷ []) has.same;
}

pub traces_grow : TracesGrow
traces_grow o trace k = record {
  on = λ h has can. (h ++ can.0 ∷ [], subst (λ (j : Skeleton). HasTrace o (h ++ can.0 ∷ []) (trace ++ j ∷ [])) can.1 (grown_by o trace h can.0 has can.2));
  only = λ legal. let e : Ends o trace k legal.0 = ends o trace k legal.0 legal.1 in (e.before, e.has, (e.entry, e.same, e.may));
}

pub traces_fit : TracesFit
traces_fit o front more legal =
    let front_legal : IsLegalTrace o front = trace_fronts o front more legal in
    let h : List Entry = front_legal.0 in
    let has : HasTrace o h front = front_legal.1 in
    (h, has, record { trackers = legal_fits_trackers o h has.legal; clients = legal_fits_clients o h has.legal; memory = legal_fits_memory o h has.legal })

pub histories_have_traces : LegalHistoriesHaveTraces
histories_have_traces o h legal = (h, record { legal = legal; same = refl })

one_for_each : (h : List Entry) (trace : List Skeleton) → skeletons h ≡ trace → AllZip (λ e k. skeleton_of e ≡ k) h trace
one_for_each [] [] is = tt
one_for_each [] (k ∷ trace) is = cc
one_for_each (e ∷ h) [] is = cc
one_for_each (e ∷ h) (k ∷ trace) is =
    let head : skeleton_of e ≡ k = cc in
    let tail : skeletons h ≡ trace = cc in
    (head, one_for_each h trace tail)

pub traces_skip_nothing : TracesSkipNothing
traces_skip_nothing o h trace has = one_for_each h trace has.same
