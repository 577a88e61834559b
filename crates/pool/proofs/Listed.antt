-- What the items of two lists together tell, and those that were made of entries or of counts.
use Rattle.std.proofs.Common.{◌≡◌, ℕ, List, [], ◌∷◌, ◌++◌, false, ◌||◌, map, refl, ap, ◌∙◌}
use Rattle.pool_model.specs.declared.event.Event.{Event}
use Rattle.pool_model.specs.declared.event.Event.TheVariants.{AddTracker}
use Rattle.pool_model.specs.declared.entry.Entry.{Entry}
use Rattle.pin_core.specs.declared.tally.Tally.{Tally}
use Rattle.session_calls.specs.declared.count.Count.{Count}
use Rattle.session_calls.specs.declared.count.Count.TheVariants.{Opening}
use Rattle.pool.specs.declared.item.Item.{Item}
use Rattle.pool.specs.declared.item.Item.TheVariants.{Seated, Made, Went, Stop}
use Rattle.pool.specs.Admitting.{item_of}
use Rattle.pool.specs.Items.{counts_in, history, is_stopped, sight_in}

pub history_more : (xs ys : List Item) → history (xs ++ ys) ≡ history xs ++ history ys
history_more [] ys = refl
history_more (Seated e ∷ xs) ys = ap (λ (h : List Entry). e ∷ h) (history_more xs ys)
history_more (Made e ∷ xs) ys = ap (λ (h : List Entry). e ∷ h) (history_more xs ys)
history_more (Went m count ∷ xs) ys = history_more xs ys
history_more (Stop ∷ xs) ys = history_more xs ys

pub counts_more : (xs ys : List Item) → counts_in (xs ++ ys) ≡ counts_in xs ++ counts_in ys
counts_more [] ys = refl
counts_more (Seated e ∷ xs) ys = counts_more xs ys
counts_more (Made e ∷ xs) ys = counts_more xs ys
counts_more (Went m count ∷ xs) ys = ap (λ (cs : List Count). count ∷ cs) (counts_more xs ys)
counts_more (Stop ∷ xs) ys = counts_more xs ys

pub stop_more : (xs ys : List Item) → is_stopped (xs ++ ys) ≡ (is_stopped xs || is_stopped ys)
stop_more [] ys = refl
stop_more (Seated e ∷ xs) ys = stop_more xs ys
stop_more (Made e ∷ xs) ys = stop_more xs ys
stop_more (Went m count ∷ xs) ys = stop_more xs ys
stop_more (Stop ∷ xs) ys = refl

pub sight_more : (first : Tally) (xs ys : List Item) → sight_in first (xs ++ ys) ≡ record { trail = history xs ++ history ys; counts = Opening first ∷ (counts_in xs ++ counts_in ys) }
sight_more first xs ys =
    ap (λ (h : List Entry). record { trail = h; counts = Opening first ∷ counts_in (xs ++ ys) }) (history_more xs ys)
    ∙ ap (λ (cs : List Count). record { trail = history xs ++ history ys; counts = Opening first ∷ cs }) (counts_more xs ys)

-- those made of entries
pub history_made : (es : List Entry) → history (map Made es) ≡ es
history_made [] = refl
history_made (e ∷ es) = ap (λ (h : List Entry). e ∷ h) (history_made es)

pub counts_made : (es : List Entry) → counts_in (map Made es) ≡ []
counts_made [] = refl
counts_made (e ∷ es) = counts_made es

-- of counts
pub history_went : (m : ℕ) (cs : List Count) → history (map (Went m) cs) ≡ []
history_went m [] = refl
history_went m (c ∷ cs) = history_went m cs

pub counts_went : (m : ℕ) (cs : List Count) → counts_in (map (Went m) cs) ≡ cs
counts_went m [] = refl
counts_went m (c ∷ cs) = ap (λ (rest : List Count). c ∷ rest) (counts_went m cs)

pub stop_made : (es : List Entry) → is_stopped (map Made es) ≡ false
stop_made [] = refl
stop_made (e ∷ es) = stop_made es

pub stop_went : (m : ℕ) (cs : List Count) → is_stopped (map (Went m) cs) ≡ false
stop_went m [] = refl
stop_went m (c ∷ cs) = stop_went m cs

-- of the entries of sessions that come
abbrev sorted : Entry → Event → Item
sorted e event = elim event [ AddTracker t parent limit quota ↦ Seated e | _ ↦ Made e ]

history_one : (e : Entry) (event : Event) (items : List Item) → history (sorted e event ∷ items) ≡ e ∷ history items
history_one e (AddTracker t parent limit quota) items = refl
history_one e _ items = refl

counts_one : (e : Entry) (event : Event) (items : List Item) → counts_in (sorted e event ∷ items) ≡ counts_in items
counts_one e (AddTracker t parent limit quota) items = refl
counts_one e _ items = refl

stop_one : (e : Entry) (event : Event) (items : List Item) → is_stopped (sorted e event ∷ items) ≡ is_stopped items
stop_one e (AddTracker t parent limit quota) items = refl
stop_one e _ items = refl

pub stop_items : (es : List Entry) → is_stopped (map item_of es) ≡ false
stop_items [] = refl
stop_items (e ∷ es) = stop_one e e.event (map item_of es) ∙ stop_items es

pub history_items : (es : List Entry) → history (map item_of es) ≡ es
history_items [] = refl
history_items (e ∷ es) = history_one e e.event (map item_of es) ∙ ap (λ (h : List Entry). e ∷ h) (history_items es)

pub counts_items : (es : List Entry) → counts_in (map item_of es) ≡ []
counts_items [] = refl
counts_items (e ∷ es) = counts_one e e.event (map item_of es) ∙ counts_items es
