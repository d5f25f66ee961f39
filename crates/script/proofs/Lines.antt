-- A command's line is its first word, a space, and its arguments.
use Rattle.std.proofs.Common.{◌≡◌, ℕ, suc, ◌^◌, ◌<◌, Bool, false, cond, eqb, ◌⊎◌, List, [], ◌∷◌, ◌++◌, length, IfSome, Some, None, Ok, Err, vec_items, codes, decimal, Option, Result, MatchResult, sym, refl, ap, ◌∙◌, subst, inl, inr, ⊎_elim, arith, Bor, rules}
use Rattle.script.proofs.Forms.{has_space, word_lacks}
use Rattle.script.specs.Parses.{first_word, NoCommand}
use Rattle.std.proofs.lemmas.Str.Pattern.{IsSplitOnceResult}
use Rattle.std.proofs.lemmas.Bool.Decides.{nat_tests}
use Rattle.sharing.specs.declared.chosen.Rule.{Rule}
use Rattle.pile.specs.declared.base.BaseKind.{BaseKind}
use Rattle.std.specs.Option.{option_map}
use Rattle.std.specs.Result.{IsOkAnd}
use Rattle.std.specs.Str.Iter.{LacksByte}
use Rattle.std.specs.List.{AllByRecursion}
use Rattle.std.specs.Str.{bytes_eq}
use Rattle.script.specs.Commands.{Fits, written, line_of}
use Rattle.script.specs.Reads.{Reads}
use Rattle.script.specs.Verbs.{allocates, verb_word}
use Rattle.script.specs.Words.{rule_word, base_word, followed, numbers}
use Rattle.script.specs.declared.command.Command.{Command}
use Rattle.script.specs.declared.command.Command.TheVariants as command
use Rattle.script.specs.declared.command.Verb.{Verb}
use Rattle.script.specs.declared.command.Verb.TheVariants as verb
use Rattle.script.specs.declared.form.Last.{Last}
use Rattle.script.specs.declared.form.Numbers.{Numbers}
use Rattle.script.specs.declared.form.Then.{Then}
use Rattle.script.specs.declared.form.ThenMore.{ThenMore}
use Rattle.script.specs.declared.form.Unread.{Unread}
use Rattle.script.specs.declared.form.Unread.TheVariants.{NoForm, NoMemory}

abbrev One : Type 0
One = Last ℕ

abbrev Two : Type 0
Two = Then ℕ (Last ℕ)

abbrev Three : Type 0
Three = Then ℕ (Then ℕ (Last ℕ))

-- what a command's first word is followed by
abbrev Arguments : Verb → Type 0
Arguments verb.Clearing = Then BaseKind One
Arguments verb.Limit = Two
Arguments verb.Pots = Three
Arguments verb.Cap = Three
Arguments verb.Cover = One
Arguments verb.Need = Three
Arguments verb.Left = One
Arguments verb.Reserve = Two
Arguments verb.Release = Two
Arguments verb.Share = Then Rule (Then ℕ (ThenMore ℕ Numbers))

abbrev Small : ℕ → Type 0
Small n = n < 2 ^ 32

abbrev fits1 : One → Type 0
fits1 x = Small x.0

abbrev fits2 : Two → Type 0
fits2 x = Small x.0 × fits1 x.1

abbrev fits3 : Three → Type 0
fits3 x = Small x.0 × fits2 x.1

abbrev form1 : One → List ℕ
form1 x = decimal x.0

abbrev form2 : Two → List ℕ
form2 x = decimal x.0 ++ (32 ∷ form1 x.1)

abbrev form3 : Three → List ℕ
form3 x = decimal x.0 ++ (32 ∷ form2 x.1)

abbrev arg_fits : (v : Verb) → Arguments v → Type 0
arg_fits verb.Clearing x = Unit {0} × fits1 x.1
arg_fits verb.Limit x = fits2 x
arg_fits verb.Pots x = fits3 x
arg_fits verb.Cap x = fits3 x
arg_fits verb.Cover x = fits1 x
arg_fits verb.Need x = fits3 x
arg_fits verb.Left x = fits1 x
arg_fits verb.Reserve x = fits2 x
arg_fits verb.Release x = fits2 x
arg_fits verb.Share x = Unit {0} × (Small x.1.0 × (Small x.1.1.0 × IfSome x.1.1.1 (λ ns. (0 < length (vec_items ns.0)) × AllByRecursion Small (vec_items ns.0))))

abbrev arg_form : (v : Verb) → Arguments v → List ℕ
arg_form verb.Clearing x = base_word x.0 ++ (32 ∷ form1 x.1)
arg_form verb.Limit x = form2 x
arg_form verb.Pots x = form3 x
arg_form verb.Cap x = form3 x
arg_form verb.Cover x = form1 x
arg_form verb.Need x = form3 x
arg_form verb.Left x = form1 x
arg_form verb.Reserve x = form2 x
arg_form verb.Release x = form2 x
arg_form verb.Share x = rule_word x.0 ++ (32 ∷ (decimal x.1.0 ++ (32 ∷ followed (decimal x.1.1.0) (option_map (λ (ns : Numbers). numbers (vec_items ns.0)) x.1.1.1))))

abbrev one : ℕ → One
one a = record { 0 = a }

abbrev two : ℕ → ℕ → Two
two a b = record { 0 = a; 1 = one b }

abbrev three : ℕ → ℕ → ℕ → Three
three a b c = record { 0 = a; 1 = two b c }

-- a command with arguments: its first word, and these
pub record Parts (c : Command) : Type 0 where
  pub verb : Verb
  pub args : Arguments verb
  pub fits : arg_fits verb args
  pub line : written c ≡ line_of verb (arg_form verb args)

-- the sums of a share, which may be none
shared : (rule : Rule) (q n : ℕ) (vs : Numbers) (ws : List ℕ) → vec_items vs.0 ≡ ws → Small q → Small n → AllByRecursion Small ws → (x : Arguments verb.Share) × arg_fits verb.Share x × (line_of verb.Share (rule_word rule ++ (32 ∷ (decimal q ++ (32 ∷ numbers (n ∷ ws))))) ≡ line_of verb.Share (arg_form verb.Share x))
shared rule q n vs [] is a b c = (record { 0 = rule; 1 = record { 0 = q; 1 = record { 0 = n; 1 = None } } }, (tt, (a, (b, tt))), refl)
shared rule q n vs (w ∷ ws) is a b c =
    let some : 0 < length (vec_items vs.0) = rw is (omega arith) in
    (record { 0 = rule; 1 = record { 0 = q; 1 = record { 0 = n; 1 = Some vs } } }, (tt, (a, (b, (some, subst (AllByRecursion Small) (sym is) c)))), ap (λ (l : List ℕ). line_of verb.Share (rule_word rule ++ (32 ∷ (decimal q ++ (32 ∷ (decimal n ++ (32 ∷ numbers l))))))) (sym is))

parts : (c : Command) → Fits c → (c ≡ command.CoverAll) ⊎ Parts c
parts (command.Clearing b n) f = inr (record { verb = verb.Clearing; args = record { 0 = b; 1 = one n }; fits = (tt, f); line = refl })
parts (command.Limit p x) f = inr (record { verb = verb.Limit; args = two p x; fits = f; line = refl })
parts (command.Pots p m s) f = inr (record { verb = verb.Pots; args = three p m s; fits = (f.0, (f.1, f.2)); line = refl })
parts (command.Cap l p x) f = inr (record { verb = verb.Cap; args = three l p x; fits = (f.0, (f.1, f.2)); line = refl })
parts command.CoverAll f = inl refl
parts (command.Cover p) f = inr (record { verb = verb.Cover; args = one p; fits = f; line = refl })
parts (command.Need p s c) f = inr (record { verb = verb.Need; args = three p s c; fits = (f.0, (f.1, f.2)); line = refl })
parts (command.Left p) f = inr (record { verb = verb.Left; args = one p; fits = f; line = refl })
parts (command.Reserve p s) f = inr (record { verb = verb.Reserve; args = two p s; fits = f; line = refl })
parts (command.Release p s) f = inr (record { verb = verb.Release; args = two p s; fits = f; line = refl })
parts (command.Share rule q n vs) f =
    let x = shared rule q n (record { 0 = vs }) (vec_items vs) refl f.0 f.1 f.2 in
    inr (record { verb = verb.Share; args = x.0; fits = x.1; line = x.2 })

-- the verb that a word is, so that no two verbs have one word
decode : List ℕ → Verb
decode w =
    cond (bytes_eq w (codes "clearing")) verb.Clearing
    (cond (bytes_eq w (codes "limit")) verb.Limit
    (cond (bytes_eq w (codes "pots")) verb.Pots
    (cond (bytes_eq w (codes "cap")) verb.Cap
    (cond (bytes_eq w (codes "cover")) verb.Cover
    (cond (bytes_eq w (codes "need")) verb.Need
    (cond (bytes_eq w (codes "left")) verb.Left
    (cond (bytes_eq w (codes "reserve")) verb.Reserve
    (cond (bytes_eq w (codes "release")) verb.Release verb.Share))))))))

decoded : (v : Verb) → decode (verb_word v) ≡ v
unfolding decode
decoded verb.Clearing = refl
decoded verb.Limit = refl
decoded verb.Pots = refl
decoded verb.Cap = refl
decoded verb.Cover = refl
decoded verb.Need = refl
decoded verb.Left = refl
decoded verb.Reserve = refl
decoded verb.Release = refl
decoded verb.Share = refl

same_verb : (v w : Verb) → verb_word v ≡ verb_word w → v ≡ w
same_verb v w e = sym (decoded v) ∙ ap decode e ∙ decoded w

verb_lacks_space : (v : Verb) → LacksByte 32 (verb_word v)
verb_lacks_space v = search rules

lacks_tail : (x : ℕ) (xs : List ℕ) → LacksByte 32 (x ∷ xs) → LacksByte 32 xs
lacks_tail x xs lacks k within is = lacks (suc k) (omega arith) is

-- the first space of a line ends its first word
same_first : (a b c d : List ℕ) → LacksByte 32 a → LacksByte 32 c → a ++ (32 ∷ b) ≡ c ++ (32 ∷ d) → (a ≡ c) × (b ≡ d)
same_first [] b [] d la lc e = (refl, cc)
same_first [] b (x ∷ c) d la lc e = let h : x ≡ 32 = cc in absurd (lc 0 (omega arith) h)
same_first (x ∷ a) b [] d la lc e = let h : x ≡ 32 = cc in absurd (la 0 (omega arith) h)
same_first (x ∷ a) b (y ∷ c) d la lc e =
    let h : x ≡ y = cc in
    let t : a ++ (32 ∷ b) ≡ c ++ (32 ∷ d) = cc in
    let p = same_first a b c d (lacks_tail x a la) (lacks_tail y c lc) t in
    ((λ i. h i ∷ p.0 i), p.1)

first_word_all : (line : List ℕ) → LacksByte 32 line → first_word line ≡ line
first_word_all [] lacks = refl
first_word_all (b ∷ bs) lacks =
    let other : b ≡ 32 → ⊥ = lacks 0 (omega arith) in
    let t : eqb b 32 ≡ false = grind (arith, nat_tests) in
    rw t (ap (λ (l : List ℕ). b ∷ l) (first_word_all bs (lacks_tail b bs lacks)))

first_word_space : (word rest : List ℕ) → LacksByte 32 word → first_word (word ++ (32 ∷ rest)) ≡ word
first_word_space [] rest lacks = refl
first_word_space (b ∷ bs) rest lacks =
    let other : b ≡ 32 → ⊥ = lacks 0 (omega arith) in
    let t : eqb b 32 ≡ false = grind (arith, nat_tests) in
    rw t (ap (λ (l : List ℕ). b ∷ l) (first_word_space bs rest (lacks_tail b bs lacks)))

-- the first word of every command is a verb
first_word_command : (c : Command) → Fits c → (v : Verb) × (first_word (written c) ≡ verb_word v)
first_word_command c f = ⊎_elim {A = c ≡ command.CoverAll} {B = Parts c} alone with_parts (parts c f)
  where
    alone : c ≡ command.CoverAll → (v : Verb) × (first_word (written c) ≡ verb_word v)
    alone is = (verb.Cover, ap (λ (d : Command). first_word (written d)) is ∙ first_word_all (codes "cover") (verb_lacks_space verb.Cover))

    with_parts : Parts c → (v : Verb) × (first_word (written c) ≡ verb_word v)
    with_parts p = (p.verb, ap first_word p.line ∙ first_word_space (verb_word p.verb) _ (verb_lacks_space p.verb))

-- a line whose first word is no verb
no_verb : (line word : List ℕ) → first_word line ≡ word → ((v : Verb) → word ≡ verb_word v → ⊥) → NoCommand line × ((v : Verb) → first_word line ≡ verb_word v → ⊥)
no_verb line word first none =
    ((λ c f is. let v = first_word_command c f in none v.0 (sym first ∙ ap first_word is ∙ v.1)), λ v e. none v (sym first ∙ e))

pub no_verb_alone : (line : List ℕ) → LacksByte 32 line → ((v : Verb) → line ≡ verb_word v → ⊥) → NoCommand line × ((v : Verb) → first_word line ≡ verb_word v → ⊥)
no_verb_alone line lacks = no_verb line line (first_word_all line lacks)

pub no_verb_first : (word rest : List ℕ) → LacksByte 32 word → ((v : Verb) → word ≡ verb_word v → ⊥) → NoCommand (word ++ (32 ∷ rest)) × ((v : Verb) → first_word (word ++ (32 ∷ rest)) ≡ verb_word v → ⊥)
no_verb_first word rest lacks = no_verb (word ++ (32 ∷ rest)) word (first_word_space word rest lacks)

-- a line whose first word is v
pub line_of_lem : (line : List ℕ) (r : Option (Bor (List ℕ) × Bor (List ℕ))) (w t : Bor (List ℕ)) (v : Verb) → IsSplitOnceResult 32 line r → r ≡ Some (w, t) → w.now ≡ verb_word v → line ≡ line_of v t.now
line_of_lem line r w t v split some is = (word_lacks line r (w, t) split some).0 ∙ ap (λ (l : List ℕ). l ++ (32 ∷ t.now)) is

-- a line whose first word is v is that of a command with v's arguments
line_parts : (v : Verb) (text : List ℕ) (c : Command) → Fits c → line_of v text ≡ written c → (x : Arguments v) × arg_fits v x × (text ≡ arg_form v x)
line_parts v text c f e = ⊎_elim {A = c ≡ command.CoverAll} {B = Parts c} alone with_parts (parts c f)
  where
    alone : c ≡ command.CoverAll → (x : Arguments v) × arg_fits v x × (text ≡ arg_form v x)
    alone is = absurd (has_space (written c) (verb_word v) text (subst (λ (d : Command). LacksByte 32 (written d)) (sym is) (verb_lacks_space verb.Cover)) (sym e))

    with_parts : Parts c → (x : Arguments v) × arg_fits v x × (text ≡ arg_form v x)
    with_parts p =
        let q = same_first (verb_word v) text (verb_word p.verb) (arg_form p.verb p.args) (verb_lacks_space v) (verb_lacks_space p.verb) (e ∙ p.line) in
        subst (λ (w : Verb). (x : Arguments w) × arg_fits w x × (text ≡ arg_form w x)) (sym (same_verb v p.verb q.0)) (p.args, p.fits, q.1)

-- arguments that are not read leave no command of the line
pub unread_line : (b : Bool) (v : Verb) (text : List ℕ) (e : Unread) → Reads b (arg_fits v) (arg_form v) text (Err e) → Reads b Fits written (line_of v text) (Err e)
unread_line b v text NoMemory unread = unread
unread_line b v text NoForm unread = λ c f is. let p = line_parts v text c f is in unread p.0 p.1 p.2

-- a command made of arguments that are read, if its line is theirs
pub made : (v : Verb) (text : List ℕ) (r : Result (Arguments v) Unread) (s : Result Command Unread) (Makes : Arguments v → Command → Type 0) → Reads (allocates v) (arg_fits v) (arg_form v) text r → MatchResult r (λ x. IsOkAnd s (Makes x)) (λ e. s ≡ Err e) → ((x : Arguments v) (c : Command) → Makes x c → arg_fits v x → Fits c × (line_of v (arg_form v x) ≡ written c)) → Reads (allocates v) Fits written (line_of v text) s
made v text (Ok x) (Ok c) Makes read cases line =
    let p = line x c cases read.0 in (p.0, ap (line_of v) read.1 ∙ p.1)
made v text (Ok x) (Err e) Makes read cases line = absurd cases
made v text (Err e) s Makes read cases line =
    subst (λ (t : Result Command Unread). Reads (allocates v) Fits written (line_of v text) t) (sym cases) (unread_line (allocates v) v text e read)
