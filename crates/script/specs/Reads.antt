use Rattle.std.specs.Prelude.{◌≡◌, ℕ, Bool, true, not, ◌&&◌, ◌||◌, List, length, Some, None, Ok, Err, Option, Result, ◌==◌, ◌≢◌, nat_lt, slice_index}
use Rattle.script.specs.declared.form.Unread.{Unread}
use Rattle.script.specs.declared.form.Unread.TheVariants.{NoForm, NoMemory}

-- r is the value that word is the written form of, if there is one
abbrev pub ReadsWord : {T : Type 0} → (T → Type 0) → (T → List ℕ) → List ℕ → Option T → Type 0
ReadsWord Fits form word (Some x) = Fits x × (word ≡ form x)
ReadsWord {T = T} Fits form word None = (x : T) → Fits x → word ≢ form x

-- r is the value that text is the written form of; there is none; or memory ran out, if reading it may need memory
abbrev pub Reads : {T : Type 0} → Bool → (T → Type 0) → (T → List ℕ) → List ℕ → Result T Unread → Type 0
Reads allocates Fits form text (Ok x) = Fits x × (text ≡ form x)
Reads {T = T} allocates Fits form text (Err NoForm) = (x : T) → Fits x → text ≢ form x
Reads allocates Fits form text (Err NoMemory) = allocates ≡ true

-- digits that begin as a number is written: no sign, and no zero before others
abbrev pub begins_plain : List ℕ → Bool
begins_plain ds = nat_lt 0 (length ds) && (not (slice_index ds 0 == 43) && (not (slice_index ds 0 == 48) || length ds == 1))
