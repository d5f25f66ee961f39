-- Reading a word and what follows it.
use Rattle.std.proofs.Common.{◌≡◌, ℕ, ◌<◌, Bool, List, ◌∷◌, ◌++◌, length, IfSome, Some, None, Ok, Err, Option, Result, sym, refl, subst, arith, lit<, length-append, Bor}
use Rattle.std.specs.Str.Iter.{LacksByte}
use Rattle.std.proofs.lemmas.Str.Pattern.{IsSplitOnceResult, split_after, split_parts}
use Rattle.std.proofs.lemmas.Option.{MatchOption-at_some, MatchOption-at_none}
use Rattle.script.specs.Reads.{Reads}
use Rattle.script.specs.declared.form.Unread.{Unread}
use Rattle.script.specs.declared.form.Unread.TheVariants.{NoForm, NoMemory}
use Rattle.script.specs.declared.form.Then.{Then}
use Rattle.script.specs.declared.form.ThenMore.{ThenMore}
use Rattle.script.specs.Words.{followed}
use Rattle.std.specs.Option.{option_map, ok_or}
use Rattle.std.specs.Result.{IsErrAnd}
use lib.Seq.{get_or-append_seam}

-- where an option is None and NoForm is told of it, nothing is read
pub no_form : {T U : Type 0} (b : Bool) (Fits : T → Type 0) (form : T → List ℕ) (text : List ℕ) (o : Option U) (s : Result U Unread) (e : Unread) (r : Result T Unread) → s ≡ ok_or o NoForm → s ≡ Err e → IsErrAnd r (λ y. y ≡ e) → (o ≡ None → (x : T) → Fits x → text ≡ form x → ⊥) → Reads b Fits form text r
no_form b Fits form text None s e (Ok x) is err left none = absurd left
no_form b Fits form text None s e (Err y) is err left none =
    let same : y ≡ NoForm = cc in subst (λ z. Reads b Fits form text (Err z)) (sym same) (none refl)
no_form b Fits form text (Some u) s e r is err left none = absurd (cc)

-- the first space of a text ends its first word
pub no_word : (text a b : List ℕ) (r : Option (Bor (List ℕ) × Bor (List ℕ))) → IsSplitOnceResult 32 text r → r ≡ None → LacksByte 32 a → text ≡ a ++ (32 ∷ b) → ⊥
no_word text a b r split none lacks is =
    MatchOption-at_none ⊥ (λ x. (x.0.now ≡ a) × (x.1.now ≡ b)) none (split_after 32 text a b r split (lit< tt) is lacks)

pub same_words : (text a b : List ℕ) (r : Option (Bor (List ℕ) × Bor (List ℕ))) (x : Bor (List ℕ) × Bor (List ℕ)) → IsSplitOnceResult 32 text r → r ≡ Some x → LacksByte 32 a → text ≡ a ++ (32 ∷ b) → (x.0.now ≡ a) × (x.1.now ≡ b)
same_words text a b r x split some lacks is =
    MatchOption-at_some ⊥ (λ y. (y.0.now ≡ a) × (y.1.now ≡ b)) x some (split_after 32 text a b r split (lit< tt) is lacks)

pub word_lacks : (text : List ℕ) (r : Option (Bor (List ℕ) × Bor (List ℕ))) (x : Bor (List ℕ) × Bor (List ℕ)) → IsSplitOnceResult 32 text r → r ≡ Some x → (text ≡ x.0.now ++ (32 ∷ x.1.now)) × LacksByte 32 x.0.now
word_lacks text r x split some =
    MatchOption-at_some _ (λ y. (text ≡ y.0.now ++ (32 ∷ y.1.now)) × LacksByte 32 y.0.now) x some (split_parts 32 text r split (lit< tt))

pub word_and_rest : (text : List ℕ) (r : Option (Bor (List ℕ) × Bor (List ℕ))) (x : Bor (List ℕ) × Bor (List ℕ)) → IsSplitOnceResult 32 text r → r ≡ Some x → text ≡ x.0.now ++ (32 ∷ x.1.now)
word_and_rest text r x split some = (word_lacks text r x split some).0

pub all_one_word : (text : List ℕ) (r : Option (Bor (List ℕ) × Bor (List ℕ))) → IsSplitOnceResult 32 text r → r ≡ None → LacksByte 32 text
all_one_word text r split none =
    MatchOption-at_none (LacksByte 32 text) (λ y. (text ≡ y.0.now ++ (32 ∷ y.1.now)) × LacksByte 32 y.0.now) none (split_parts 32 text r split (lit< tt))

-- a text with a space lacks none
pub has_space : (text a b : List ℕ) → LacksByte 32 text → text ≡ a ++ (32 ∷ b) → ⊥
has_space text a b lacks is =
    let within : length a < length text = rw is (simp length-append (omega arith)) in
    lacks (length a) within (rw is (get_or-append_seam a 32 b 0))

module _ {A B : Type 0} (FA : A → Type 0) (fa : A → List ℕ) (FB : B → Type 0) (fb : B → List ℕ) (plain : (x : A) → FA x → LacksByte 32 (fa x)) where
  abbrev Fits : Then A B → Type 0
  Fits x = FA x.0 × FB x.1

  abbrev form : Then A B → List ℕ
  form x = fa x.0 ++ (32 ∷ fb x.1)

  pub then_none : (text : List ℕ) (r : Option (Bor (List ℕ) × Bor (List ℕ))) → IsSplitOnceResult 32 text r → r ≡ None → (x : Then A B) → FA x.0 × FB x.1 → text ≡ fa x.0 ++ (32 ∷ fb x.1) → ⊥
  then_none text r split none x fits is = no_word text _ _ r split none (plain x.0 fits.0) is

  pub then_first : (text : List ℕ) (r : Option (Bor (List ℕ) × Bor (List ℕ))) (w v : Bor (List ℕ)) → IsSplitOnceResult 32 text r → r ≡ Some (w, v) → ((x : A) → FA x → w.now ≡ fa x → ⊥) → (x : Then A B) → FA x.0 × FB x.1 → text ≡ fa x.0 ++ (32 ∷ fb x.1) → ⊥
  then_first text r w v split some unread x fits is =
      unread x.0 fits.0 (same_words text _ _ r (w, v) split some (plain x.0 fits.0) is).0

  pub then_rest : (b : Bool) (text : List ℕ) (r : Option (Bor (List ℕ) × Bor (List ℕ))) (w v : Bor (List ℕ)) (e : Unread) → IsSplitOnceResult 32 text r → r ≡ Some (w, v) → Reads b FB fb v.now (Err e) → Reads b Fits form text (Err e)
  then_rest b text r w v NoMemory split some unread = unread
  then_rest b text r w v NoForm split some unread = λ x fits is.
      unread x.1 fits.1 (same_words text _ _ r (w, v) split some (plain x.0 fits.0) is).1

  abbrev FitsMore : ThenMore A B → Type 0
  FitsMore x = FA x.0 × IfSome x.1 FB

  abbrev form_more : ThenMore A B → List ℕ
  form_more x = followed (fa x.0) (option_map fb x.1)

  more_alone : (text : List ℕ) (r : Option (Bor (List ℕ) × Bor (List ℕ))) → IsSplitOnceResult 32 text r → r ≡ None → (a : A) (m : Option B) → FA a → text ≡ followed (fa a) (option_map fb m) → text ≡ fa a
  more_alone text r split none a None fits is = is
  more_alone text r split none a (Some b) fits is = absurd (no_word text _ _ r split none (plain a fits) is)

  pub more_single : (text : List ℕ) (r : Option (Bor (List ℕ) × Bor (List ℕ))) → IsSplitOnceResult 32 text r → r ≡ None → ((x : A) → FA x → text ≡ fa x → ⊥) → (x : ThenMore A B) → FA x.0 × IfSome x.1 FB → text ≡ followed (fa x.0) (option_map fb x.1) → ⊥
  more_single text r split none unread x fits is = unread x.0 fits.0 (more_alone text r split none x.0 x.1 fits.0 is)

  more_two : (text : List ℕ) (r : Option (Bor (List ℕ) × Bor (List ℕ))) (w v : Bor (List ℕ)) → IsSplitOnceResult 32 text r → r ≡ Some (w, v) → (a : A) (m : Option B) → FA a → IfSome m FB → text ≡ followed (fa a) (option_map fb m) → (w.now ≡ fa a) × ((b : B) × FB b × (v.now ≡ fb b))
  more_two text r w v split some a None fits fits_more is =
      absurd (has_space text w.now v.now (subst (LacksByte 32) (sym is) (plain a fits)) (word_and_rest text r (w, v) split some))
  more_two text r w v split some a (Some b) fits fits_more is =
      let same = same_words text _ _ r (w, v) split some (plain a fits) is in (same.0, (b, fits_more, same.1))

  pub more_first : (text : List ℕ) (r : Option (Bor (List ℕ) × Bor (List ℕ))) (w v : Bor (List ℕ)) → IsSplitOnceResult 32 text r → r ≡ Some (w, v) → ((x : A) → FA x → w.now ≡ fa x → ⊥) → (x : ThenMore A B) → FA x.0 × IfSome x.1 FB → text ≡ followed (fa x.0) (option_map fb x.1) → ⊥
  more_first text r w v split some unread x fits is = unread x.0 fits.0 (more_two text r w v split some x.0 x.1 fits.0 fits.1 is).0

  pub more_rest : (b : Bool) (text : List ℕ) (r : Option (Bor (List ℕ) × Bor (List ℕ))) (w v : Bor (List ℕ)) (e : Unread) → IsSplitOnceResult 32 text r → r ≡ Some (w, v) → Reads b FB fb v.now (Err e) → Reads b FitsMore form_more text (Err e)
  more_rest b text r w v NoMemory split some unread = unread
  more_rest b text r w v NoForm split some unread = λ x fits is.
      let p = more_two text r w v split some x.0 x.1 fits.0 fits.1 is in unread p.1.0 p.1.1 p.1.2
