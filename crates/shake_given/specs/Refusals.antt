-- Why flags aren't read.
use Rattle.std.specs.Prelude.{◌≡◌, ◌≢◌, ◌≤◌, ◌^◌, ◌↔◌, ◌⊎◌, false, List, ◌∷◌, ◌++◌, length, codes, string_bytes}
use Rattle.std.specs.declared.alloc.Global.{Global}
use Rattle.std.specs.declared.string.String.{String}
use Rattle.swc_ast.specs.Tree.{Text}
use Rattle.swc_ast.specs.declared.names.Mark.{Mark}
use Rattle.swc_text.specs.declared.error.ReadError.{ReadError}
use Rattle.swc_text.specs.declared.error.ReadError.TheVariants as read
use Rattle.given_rules.specs.Givable.{IsGivable}
use Rattle.shake_options.specs.Flags.{FlagText, defined, an_env, a_type, a_const}
use Rattle.shake_given.specs.declared.error.GivenError.{GivenError}
use Rattle.shake_given.specs.declared.error.GivenError.TheVariants.{Unreadable, NoChain, Unfit, OutOfMemory}
use Rattle.shake_given.specs.declared.given.Given.{Given}
use Rattle.shake_given.specs.Reads.{is_chain, IsChain, ReadAs, Reads}

-- what the reader tells of a text that it refuses, but for memory
pub record IsUnread (text : Text) (fault : ReadError) : Type 0 where
  pub too_long : fault ≡ read.TooLong ↔ 2 ^ 31 ≤ length text
  pub other : fault ≢ read.OutOfMemory

-- a text that is given for a key isn't read
pub data Unread (key text : Text) : GivenError → Type 0 where
  no_memory : Unread key text OutOfMemory
  unreadable : {k : String Global} {fault : ReadError} → string_bytes k ≡ key → IsUnread text fault → Unread key text (Unreadable k fault)

-- a key's own text isn't read, or it is read as no chain
pub data RefusesKey (key text : Text) (mark : Mark) : GivenError → Type 0 where
  unread_key : {e : GivenError} → Unread key text e → RefusesKey key text mark e
  no_chain : {k : String Global} → string_bytes k ≡ key → ReadAs text mark (λ t. is_chain t ≡ false) → RefusesKey key text mark (NoChain k)

-- a value's text isn't read, or the value may not be given
pub data RefusesValue (key text : Text) (mark : Mark) : GivenError → Type 0 where
  unread_value : {e : GivenError} → Unread key text e → RefusesValue key text mark e
  unfit : {k : String Global} → string_bytes k ≡ key → ReadAs text mark (λ t. IsGivable t → ⊥) → RefusesValue key text mark (Unfit k)

-- the key of an export, as the command line has it
abbrev pub export_key : Text → Text → Text
export_key m x = m ++ (codes ":" ++ x)

-- why a flag is refused
abbrev pub Refuses : FlagText → Mark → GivenError → Type 0
Refuses (defined k v) mark e = RefusesKey k k mark e ⊎ (ReadAs k mark IsChain × RefusesValue k v mark e)
Refuses (an_env k t) mark e = e ≡ OutOfMemory
Refuses (a_type x t) mark e = e ≡ OutOfMemory
Refuses (a_const m x v) mark e = RefusesValue (export_key m x) v mark e

-- a flag is refused, and those in front of it are taken
pub record FlagRefused (fs : List FlagText) (mark : Mark) (e : GivenError) : Type 0 where
  pub front : List FlagText
  pub flag : FlagText
  pub behind : List FlagText
  pub order : fs ≡ front ++ flag ∷ behind
  pub taken : Given
  pub reads : Reads mark front taken
  pub refused : Refuses flag mark e
