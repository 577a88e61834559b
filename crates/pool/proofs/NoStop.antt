-- Who has the value in hand doesn't tell writers to end; who opened the pool does.
use Rattle.std.proofs.Common.{◌≡◌, ℕ, suc, ◌+◌, List, [], ◌∷◌, ◌++◌, Bool, true, false, ◌||◌, length, drop, map, refl, sym, ap, ◌∙◌}
use Rattle.std.proofs.lemmas.List.{append-nil}
use Rattle.std.specs.FinMap.{empty, get}
use Rattle.outside.specs.declared.slot.Slot.{Ghosts}
use Rattle.reservation_tree.specs.Total.{total}
use Rattle.pool_model.specs.declared.entry.Entry.{Entry}
use Rattle.pool_model.specs.State.{Opening}
use Rattle.pin_core.specs.declared.parts.Parts.{Parts}
use Rattle.pin_core.specs.declared.tally.Tally.{Tally}
use Rattle.pin_core.specs.calls.Opening.{spare_of}
use Rattle.session_calls.specs.declared.count.Count.{Count}
use Rattle.session_calls.specs.declared.count.Count.TheVariants as count
use Rattle.session_calls.specs.Having.{Sight}
use Rattle.pool.specs.declared.item.Item.{Item}
use Rattle.pool.specs.declared.item.Item.TheVariants.{Made, Stop, Went}
use Rattle.pool.specs.Items.{counts_in, history, is_stopped, sight_in}
use Rattle.pool.specs.Seats.{Quotas, quotas_in}
use Rattle.pool.specs.Standing.{StandsAs}
use Rattle.pool.specs.Taking.{made_since}
use Rattle.pool.proofs.Beside.{quotas_more}
use Rattle.pool.proofs.Listed.{sight_more, stop_made, stop_more, stop_went}
use Rattle.pool.proofs.Marked.{marked_more}

-- what came while a maker had the value in hand tells nothing of an end
pub none_stops : (m : ℕ) (seen : List Item) (now : Sight) → is_stopped (made_since m seen now) ≡ false
none_stops m seen now =
    let es : List Entry = drop (length (history seen)) now.trail in
    let cs : List Count = drop (suc (length (counts_in seen))) now.counts in
    stop_more (map Made es) (map (Went m) cs) ∙ ap (λ (b : Bool). b || is_stopped (map (Went m) cs)) (stop_made es) ∙ stop_went m cs

or_all : (b : Bool) → (b || true) ≡ true
or_all true = refl
or_all false = refl

-- behind the mark they have to end
module _ (items : List Item) where
  pub stops : true ≡ is_stopped (items ++ Stop ∷ [])
  stops = sym (stop_more items (Stop ∷ []) ∙ or_all (is_stopped items))

  -- no session comes or goes by it
  pub quotas_stop : quotas_in (items ++ Stop ∷ []) ≡ quotas_in items
  quotas_stop = quotas_more empty items (Stop ∷ [])

  sight_stop : (first : Tally) → sight_in first items ≡ sight_in first (items ++ Stop ∷ [])
  sight_stop first =
      ap (λ (h : List Entry). record { trail = h; counts = count.Opening first ∷ counts_in items }) (sym (append-nil (history items)))
      ∙ ap (λ (cs : List Count). record { trail = history items ++ []; counts = count.Opening first ∷ cs }) (sym (append-nil (counts_in items)))
      ∙ sym (sight_more first items (Stop ∷ []))

  -- the value stands for the same behind it
  pub stands_stopped : {D : Type 0} (slot : Ghosts D) (o : Opening) (told : Bool) (first : Tally) (sight : Sight) (v : Parts D) → StandsAs slot o told first items sight v → StandsAs slot o told first (items ++ Stop ∷ []) sight v
  stands_stopped slot o told first sight v stood = record {
    sight_is = stood.sight_is ∙ sight_stop first;
    whole = stood.whole;
    marked = marked_more items (Stop ∷ []) stood.marked (tt, tt);
    sessions = λ m. stood.sessions m ∙ ap (λ (q : Quotas). get q m) (sym quotas_stop);
    spare = ap (λ (q : Quotas). spare_of v + total (λ m quota. quota) q) quotas_stop ∙ stood.spare;
  }
