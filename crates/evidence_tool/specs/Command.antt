-- The words of the command line, and the command that they name.
use Rattle.std.specs.Prelude.{◌≡◌, ℕ, List, [], ◌∷◌, map, codes, String, string_bytes}
use Rattle.std.specs.declared.alloc.Global.{Global}
use Rattle.civil_moment.specs.declared.moment.Moment.{Moment}
use Rattle.civil_moment.specs.Moment.{Text}
use Rattle.evidence_tool.specs.declared.command.Command.{Command}
use Rattle.evidence_tool.specs.declared.command.Command.TheVariants.{Create, Serve, Verify, Trial}

-- The words are `trial` and two generalized times (X.690, 11.7), which say these moments.
pub record IsTrial (words : List (String Global)) (hash_end key_end : Moment) : Type 0 where
  pub hash_word : List ℕ
  pub key_word : List ℕ
  pub are : map string_bytes words ≡ codes "trial" ∷ hash_word ∷ key_word ∷ []
  pub hash_text : Text hash_word hash_end
  pub key_text : Text key_word key_end

-- the words name this command: one line a command
abbrev pub Names : List (String Global) → Command → Type 0
Names words Create = map string_bytes words ≡ codes "create" ∷ []
Names words Serve = map string_bytes words ≡ codes "serve" ∷ []
Names words Verify = map string_bytes words ≡ codes "verify" ∷ []
Names words (Trial hash_end key_end) = IsTrial words hash_end key_end
