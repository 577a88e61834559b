use Rattle.std.proofs.Common.{◌≡◌, ◌≤◌, ◌⊎◌, List, [], ◌∷◌, ◌++◌, length, Result, Ok, Err, OnOk, OnErr, refl, inl, inr}
use Rattle.row_codec.specs.declared.values.Value.{Value}
use Rattle.store_api.specs.Holdings.{Holdings, unused_of}
use Rattle.store_api.specs.Conditions.{IsIdle}
use Rattle.store_api.specs.declared.op_err.OpErr.{OpErr}
use Rattle.tests_stores.proofs.tests.stores.emitters.taken_by.Goals as goal

-- whatever a row was answered, the emitter took some rows
some_taken : (r : Result Unit OpErr) (row : List Value) (old new : List (List Value) → Type 0) (P : Type 0)
    → OnOk r ((rows : List (List Value)) → old rows → new (rows ++ row ∷ [])) → OnErr r ((rows : List (List Value)) → old rows → new rows ⊎ new (rows ++ row ∷ []))
    → old [] → ((rows : List (List Value)) → new rows → P) → P
some_taken (Ok done) row old new P ok err first so = so _ (ok [] first)
some_taken (Err e) row old new P ok err first so = elim (err [] first) [ inl as_before ↦ so _ as_before | inr more ↦ so _ more ]

pub end_client-requires-clause-idle : goal.end_client-requires-clause-idle
end_client-requires-clause-idle g c =
    let now = c.row-answer.new.self in
    let held : Holdings = g.St.Store.holds c.row-answer.new.store in
    some_taken c.row-answer.result _ _ (λ rows. (length rows ≡ now.rows) × (held.block_len ≤ unused_of now.client.tracker held) × IsIdle now.client.tracker held)
    (IsIdle now.client.tracker held) c.row-answer.ensures.ok c.row-answer.ensures.err (refl, c.requires.unused, c.requires.idle) (λ rows took. took.2)
