-- A feeder takes one item more.
use Rattle.std.proofs.Common.{List, [], ◌∷◌, ◌++◌, append-nil, append_assoc, sym, ap, subst, ◌∙◌}
use Rattle.fragments.specs.Running.{TakesOn}

module _ {T F C : Type 0} (took : F → C → F → C → List T → Type 0) where
  pub takes_none : (op : F) (beside : C) (before : List T) → TakesOn took op beside op beside before before
  takes_none op beside before = record {
    more = [];
    added = sym (append-nil before);
    fed = λ first c items old. subst (took first c op beside) (sym (append-nil items)) old;
  }

  pub takes_more : (op : F) (beside : C) (mid : F) (mid_beside : C) (op' : F) (beside' : C) (before after : List T) (x : T)
      → TakesOn took op beside mid mid_beside before after
      → ((first : F) (c : C) (items : List T) → took first c mid mid_beside items → took first c op' beside' (items ++ x ∷ []))
      → TakesOn took op beside op' beside' before (after ++ x ∷ [])
  takes_more op beside mid mid_beside op' beside' before after x on step = record {
    more = on.more ++ x ∷ [];
    added = ap (λ l. l ++ x ∷ []) on.added ∙ append_assoc before on.more (x ∷ []);
    fed = λ first c items old. subst (took first c op' beside') (append_assoc items on.more (x ∷ [])) (step first c (items ++ on.more) (on.fed first c items old));
  }
