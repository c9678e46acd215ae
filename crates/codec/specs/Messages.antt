-- What refusals and errors print.
-- Assumes nothing: these are definitions.
use Rattle.std.specs.Prelude.{ℕ, List, ◌++◌, codes}
use Rattle.std.specs.Fmt.{decimal}
use Rattle.codec.specs.declared.refusal.Refusal.{Refusal}
use Rattle.codec.specs.declared.writer.WriteError.{WriteError}
use Rattle.codec.specs.declared.writer.WriteError.TheVariants.{Size, Textures, Texture, Commands, Command, Memory}
use Rattle.codec.specs.Refusals.{refusal_number, refusal_place}

abbrev pub refusal_text : Refusal → List ℕ
refusal_text r = codes "refused " ++ (decimal (refusal_number r) ++ (codes " at " ++ decimal (refusal_place r)))

abbrev pub write_error_text : WriteError → List ℕ
write_error_text Size = codes "a size is out of range"
write_error_text Textures = codes "there are more than 64 textures"
write_error_text (Texture k) = codes "a texture is out of range"
write_error_text Commands = codes "there are more than 65535 commands"
write_error_text (Command k) = codes "a command is out of range"
write_error_text Memory = codes "there is not enough memory"
