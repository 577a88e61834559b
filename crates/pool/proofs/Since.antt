-- What came behind the items that a seat has seen, while a session had the value in hand.
use Rattle.std.proofs.Common.{◌≡◌, ℕ, suc, List, ◌∷◌, ◌++◌, length, drop, map, sym, ap, ◌∙◌}
use Rattle.std.proofs.lemmas.List.{append-nil}
use Rattle.std.proofs.Math.Seq.{drop-append_seam}
use Rattle.pool_model.specs.declared.entry.Entry.{Entry}
use Rattle.pin_core.specs.declared.tally.Tally.{Tally}
use Rattle.session_calls.specs.declared.count.Count.{Count}
use Rattle.session_calls.specs.declared.count.Count.TheVariants.{Opening}
use Rattle.session_calls.specs.Having.{Sight}
use Rattle.pool.specs.declared.item.Item.{Item}
use Rattle.pool.specs.declared.item.Item.TheVariants.{Made, Went}
use Rattle.pool.specs.Items.{counts_in, history, sight_in}
use Rattle.pool.specs.Taking.{made_since}
use Rattle.pool.proofs.Listed.{history_more, history_made, history_went, counts_more, counts_made, counts_went}

module _ (m : ℕ) (es : List Entry) (cs : List Count) where
  -- it entered these entries, and these counts
  abbrev pub worked : List Item
  worked = map Made es ++ map (Went m) cs

  history_worked : history worked ≡ es
  history_worked =
      history_more (map Made es) (map (Went m) cs) ∙ ap (λ (h : List Entry). h ++ history (map (Went m) cs)) (history_made es)
      ∙ ap (λ (h : List Entry). es ++ h) (history_went m cs) ∙ append-nil es

  counts_worked : counts_in worked ≡ cs
  counts_worked = counts_more (map Made es) (map (Went m) cs) ∙ ap (λ (c : List Count). c ++ counts_in (map (Went m) cs)) (counts_made es) ∙ counts_went m cs

  module _ (first : Tally) (seen : List Item) (now : Sight) (trail : now.trail ≡ history seen ++ es) (counts : now.counts ≡ Opening first ∷ (counts_in seen ++ cs)) where
    pub since_is : made_since m seen now ≡ worked
    since_is =
        ap (λ (h : List Entry). map Made (drop (length (history seen)) h) ++ map (Went m) (drop (suc (length (counts_in seen))) now.counts)) trail
        ∙ ap (λ (h : List Entry). map Made h ++ map (Went m) (drop (suc (length (counts_in seen))) now.counts)) (drop-append_seam (history seen) es)
        ∙ ap (λ (c : List Count). map Made es ++ map (Went m) (drop (suc (length (counts_in seen))) c)) counts
        ∙ ap (λ (c : List Count). map Made es ++ map (Went m) c) (drop-append_seam (counts_in seen) cs)

    -- with them all is seen
    pub sight_worked : now ≡ sight_in first (seen ++ worked)
    sight_worked =
        ap (λ (h : List Entry). record { trail = h; counts = now.counts }) (trail ∙ ap (λ (h : List Entry). history seen ++ h) (sym history_worked) ∙ sym (history_more seen worked))
        ∙ ap (λ (c : List Count). record { trail = history (seen ++ worked); counts = c })
        (counts ∙ ap (λ (c : List Count). Opening first ∷ (counts_in seen ++ c)) (sym counts_worked) ∙ ap (λ (c : List Count). Opening first ∷ c) (sym (counts_more seen worked)))

    pub sight_since : sight_in first (seen ++ made_since m seen now) ≡ now
    sight_since = ap (λ (more : List Item). sight_in first (seen ++ more)) since_is ∙ sym sight_worked
