-- How histories grow by one entry, and what they tell of contents.
use Rattle.std.proofs.Common.{◌≡◌, ℕ, Bool, if◌then◌else◌, List, [], ◌∷◌, ◌++◌, Option, Some, None, replicate, refl, ap, sym, ◌∙◌, subst, eq-eqb}
use Rattle.pool_model.specs.declared.event.Event.TheVariants.{Unpin}
use Rattle.pool_model.specs.declared.entry.Entry.{Entry}
use Rattle.pool_model.specs.Bytes.{bytes_of}
use Rattle.pool_model.specs.State.{Opening, State}
use Rattle.pool_model.specs.MayFollow.{MayFollow}
use Rattle.pool_model.specs.Effects.{after}
use Rattle.pool_model.specs.Legal.{state_after, IsLegal}
use Rattle.pool_model.specs.LookingBack.{Made, maker_of, left_in, content_from, content_of}
use Rattle.pool_model.proofs.Fronts.{legal_grows, state_runs_on}
use Rattle.pool_model.proofs.Made.{still_made}
use Rattle.pin_core.specs.Invariant.{HasHistory}

-- a legal history and its state grow by an entry that may follow
pub record GrewBy (o : Opening) (h : List Entry) (s : State) (e : Entry) : Type 0 where
  pub legal : IsLegal o (h ++ e ∷ [])
  pub state : after s e ≡ state_after o (h ++ e ∷ [])

pub grew : (o : Opening) (h : List Entry) (s : State) (e : Entry) → IsLegal o h → s ≡ state_after o h → MayFollow h s e → GrewBy o h s e
grew o h s e legal is may =
    let next : MayFollow h (state_after o h) e = subst (λ (z : State). MayFollow h z e) is may in
    record {
      legal = legal_grows o h (e ∷ []) legal (next, tt);
      state = ap (λ (z : State). after z e) is ∙ sym (state_runs_on o h (e ∷ []));
    }

pub history_grows : (s : State) (e : Entry) → HasHistory s → ((h : List Entry) → MayFollow h s e) → HasHistory (after s e)
history_grows s e has may =
    let more : GrewBy has.opening has.history s e = grew has.opening has.history s e has.legal has.after (may has.history) in
    record { opening = has.opening; history = has.history ++ e ∷ []; legal = more.legal; after = more.state }

content_more : (p : ℕ) (old : List ℕ) (h : List Entry) (e : Entry) → content_from p old (h ++ e ∷ []) ≡ left_in p e.event (content_from p old h)
content_more p old [] e = refl
content_more p old (d ∷ h) e = content_more p (left_in p d.event old) h e

abbrev begins : Opening → Option Made → List ℕ
begins o m = elim m [ None ↦ [] | Some made ↦ replicate (bytes_of o.block_len made.blocks) 0 ]

-- the bytes of a page that was made before the entry
pub content_grows : (o : Opening) (h : List Entry) (e : Entry) (p : ℕ) (m : Made) → maker_of h p ≡ Some m → content_of o (h ++ e ∷ []) p ≡ left_in p e.event (content_of o h p)
content_grows o h e p m is =
    ap (λ (k : Option Made). content_from p (begins o k) (h ++ e ∷ [])) (still_made h (e ∷ []) p m is)
    ∙ content_more p (begins o (Some m)) h e
    ∙ ap (λ (k : Option Made). left_in p e.event (content_from p (begins o k) h)) (sym is)

pub content_unpinned : (o : Opening) (h : List Entry) (maker p : ℕ) (bytes : List ℕ) (m : Made) → maker_of h p ≡ Some m → content_of o (h ++ record { maker = maker; event = Unpin p bytes } ∷ []) p ≡ bytes
content_unpinned o h maker p bytes m is =
    content_grows o h (record { maker = maker; event = Unpin p bytes }) p m is
    ∙ ap (λ (b : Bool). if b then bytes else content_of o h p) (eq-eqb p p refl)
