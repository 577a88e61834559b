use Rattle.std.proofs.Common.{rules, ◌≡◌, List, ℕ, ◌++◌, [], ◌∷◌, map, ap, sym, ◌∙◌, subst}
use Rattle.std.proofs.lemmas.List.{map-append}
use Rattle.tuple_stream.specs.Reading.{HasRead, ReadsRow}
use Rattle.tuple_stream.specs.Steps.{scene}
use Rattle.tuple_stream.proofs.ReadRow.{reads_trans}
use Rattle.tuple_stream.proofs.ReadAll.{read_first, read_more}
use Rattle.tests_stores.proofs.tests.streams.pair.read_all.Goals as goal

pub loop-row-init : goal.loop-row-init
loop-row-init g c = read_first c.args.c.now.tracker _ c.first-place.result _ c.first-place.ensures c.requires.stream

pub returns-in_err-keep_into-clause-went : goal.returns-in_err-keep_into-clause-went
returns-in_err-keep_into-clause-went g c = reads_trans c.args.c.now.tracker _ _ _ c.loop-row.invariant.went c.keep_into.ensures.went

pub returns-then-not-branch-clause-went : goal.returns-then-not-branch-clause-went
returns-then-not-branch-clause-went g c = reads_trans c.args.c.now.tracker _ _ _ c.loop-row.invariant.went c.keep_into.ensures.went

pub returns-then-is_err-clause-went : goal.returns-then-is_err-clause-went
returns-then-is_err-clause-went g c = reads_trans c.args.c.now.tracker _ _ _ c.loop-row.invariant.went c.keep_into.ensures.went

pub loop-row-preserved : goal.loop-row-preserved
loop-row-preserved g c =
    let b = scene c.loop-row.stream (g.St.Store.holds c.loop-row.store) (g.St.Store.signs c.loop-row.store) in
    let d = scene c.keep_into.new.self (g.St.Store.holds c.keep_into.new.store) (g.St.Store.signs c.keep_into.new.store) in
    let read : ReadsRow c.loop-row.place c.keep_into.new.place c.keep_into.new.out.items b d = search rules in
    let pushed : map (λ r. r.items) c.push.new.self.items ≡ map (λ r. r.items) c.loop-row.out.items ++ c.keep_into.new.out.items ∷ [] =
    (let items : c.push.new.self.items ≡ c.loop-row.out.items ++ c.keep_into.new.out ∷ [] = search rules in ap (map (λ r. r.items)) items ∙ map-append (λ r. r.items) c.loop-row.out.items (c.keep_into.new.out ∷ [])) in
    subst (λ (now : List (List ℕ)). HasRead c.args.c.now.tracker (map (λ r. r.items) c.args.out.now.items) now c.keep_into.new.place (scene c.args.stream.now (g.St.Store.holds c.args.store.now) (g.St.Store.signs c.args.store.now)) d) (sym pushed)
    (read_more c.args.c.now.tracker _ _ c.keep_into.new.out.items c.loop-row.place c.keep_into.new.place _ b d c.loop-row.invariant c.keep_into.ensures.went c.keep_into.ensures.same read)
