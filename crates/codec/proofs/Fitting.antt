-- What has been judged is in bounds.
-- Assumes nothing.
use Rattle.std.proofs.Common.{◌≡◌, ℕ, ◌-◌, ◌<◌, ◌≤◌, true, leb, List, [], ◌∷◌, ◌++◌, length, get_or, drop, Some, None, Option, refl, one-add, arith}
use Rattle.std.specs.List.{AllByRecursion}
use Rattle.std.specs.Option.{option_to_list}
use Rattle.std.proofs.ByRecursion.{All-from_get_or, All-append, All-take, All-drop, All-map, All-weaker}
use Rattle.std.proofs.lemmas.List.{length-append, length-drop, length-map, length-take-le}
use Rattle.std.proofs.lemmas.Bool.{leb-true}
use Rattle.std.proofs.lemmas.Bool.Decides.{nat_tests}
use Rattle.meaning.specs.declared.command.Command.{Command}
use Rattle.meaning.specs.declared.command.Command.TheVariants as kind
use Rattle.meaning.specs.declared.state.Size.{Size}
use Rattle.meaning.specs.Meaning.{Image}
use Rattle.meaning.specs.Fits.{Bytes, ImageFits, InstructionFits, ListFits}
use Rattle.codec.specs.declared.part.TexturePart.{TexturePart}
use Rattle.codec.specs.declared.writer.WriteError.{WriteError}
use Rattle.codec.specs.declared.writer.WriteError.TheVariants as wrong
use Rattle.codec.specs.File.{le, all, image_bytes, command_bytes, file_of}
use Rattle.codec.specs.Writing.{part_size, part_image, part_images, instruction_of, instructions, size_ok, part_ok, command_ok, first_not, refused_at, refusal, Typed}
use Rattle.codec.proofs.Passing.{none_if, all_pass}

-- what it means that there is no refusal
pub record Fine (s : Size) (ps : List TexturePart) (n : ℕ) (cs : List Command) : Type 0 where
  pub size : size_ok s ≡ true
  pub textures : length ps ≤ 64
  pub each_texture : AllByRecursion (λ p. part_ok n p ≡ true) ps
  pub no_texture : first_not (part_ok n) ps ≡ None
  pub commands : length cs ≤ 65535
  pub each_command : AllByRecursion (λ c. command_ok s (length ps) c ≡ true) cs
  pub no_command : first_not (command_ok s (length ps)) cs ≡ None

none_at : (f : ℕ → WriteError) (o : Option ℕ) (x : Option WriteError) → refused_at f o x ≡ None → (o ≡ None) × (x ≡ None)
none_at f None x h = (refl, h)
none_at f (Some k) x h = absurd (grind arith)

pub fine : (s : Size) (ps : List TexturePart) (n : ℕ) (cs : List Command) → refusal s ps n cs ≡ None → Fine s ps n cs
unfolding refusal
fine s ps n cs h =
    let a = none_if (size_ok s) _ wrong.Size h in
    let b = none_if (leb (length ps) 64) _ wrong.Textures a.1 in
    let d = none_at wrong.Texture (first_not (part_ok n) ps) _ b.1 in
    let e = none_if (leb (length cs) 65535) _ wrong.Commands d.1 in
    let f = none_at wrong.Command (first_not (command_ok s (length ps)) cs) None e.1 in
    record {
      size = a.0;
      textures = leb-true _ _ b.0;
      each_texture = all_pass (part_ok n) ps d.0;
      no_texture = d.0;
      commands = leb-true _ _ e.0;
      each_command = all_pass (command_ok s (length ps)) cs f.0;
      no_command = f.0;
    }

image_fits : (dots : List ℕ) → Bytes dots → (p : TexturePart) → part_ok (length dots) p ≡ true → ImageFits (part_image dots p)
image_fits dots b p h =
    let within : part_size p ≤ length dots - p.start = grind (arith, nat_tests) in
    record {
      across = grind (arith, nat_tests);
      down = grind (arith, nat_tests);
      size = length-take-le (part_size p) (drop p.start dots) (rw (length-drop p.start dots) within);
      bytes = All-take _ (part_size p) (drop p.start dots) (All-drop _ p.start dots b);
    }

instruction_fits : (s : Size) (ts : List Image) (n : ℕ) → length ts ≡ n → (c : Command) → command_ok s n c ≡ true → Typed c → AllByRecursion (InstructionFits s ts) (option_to_list (instruction_of c))
instruction_fits s ts n e (kind.Pen p) h t = (
  record {
    texture = grind (arith, nat_tests);
    frame = record { across = grind (arith, nat_tests); right = grind (arith, nat_tests); down = grind (arith, nat_tests); bottom = grind (arith, nat_tests) };
  },
  tt,
)
instruction_fits s ts n e (kind.Look w) h t = absurd (grind arith)
instruction_fits s ts n e (kind.Clear c z) h t = ((t.0, All-from_get_or (λ b. b < 256) c 0 (λ i _. t.1 i), t.2), tt)
instruction_fits s ts n e (kind.Triangles k) h t = absurd (grind arith)
instruction_fits s ts n e kind.Show h t = (tt, tt)

instructions_fit : (s : Size) (ts : List Image) (n : ℕ) → length ts ≡ n → (cs : List Command) → AllByRecursion (λ c. command_ok s n c ≡ true) cs → AllByRecursion Typed cs →
    AllByRecursion (InstructionFits s ts) (instructions cs)
unfolding instructions
instructions_fit s ts n e [] h t = tt
instructions_fit s ts n e (c ∷ cs) h t =
    All-append _ (option_to_list (instruction_of c)) (instructions cs) (instruction_fits s ts n e c h.0 t.0) (instructions_fit s ts n e cs h.1 t.1)

-- each command that passes is one instruction
one_instruction : (s : Size) (n : ℕ) (c : Command) → command_ok s n c ≡ true → length (option_to_list (instruction_of c)) ≡ 1
one_instruction s n (kind.Pen p) h = refl
one_instruction s n (kind.Look w) h = absurd (grind arith)
one_instruction s n (kind.Clear c z) h = refl
one_instruction s n (kind.Triangles k) h = absurd (grind arith)
one_instruction s n kind.Show h = refl

length_instructions : (s : Size) (n : ℕ) (cs : List Command) → AllByRecursion (λ c. command_ok s n c ≡ true) cs → length (instructions cs) ≡ length cs
unfolding instructions
length_instructions s n [] h = refl
length_instructions s n (c ∷ cs) h =
    rw (length-append, one_instruction s n c h.0, length_instructions s n cs h.1) (one-add (length cs))

pub list_fits : (s : Size) (ps : List TexturePart) (dots : List ℕ) (cs : List Command) → ((k : ℕ) → get_or dots k 0 < 256) → AllByRecursion Typed cs → refusal s ps (length dots) cs ≡ None →
    ListFits s (part_images dots ps) (instructions cs)
list_fits s ps dots cs bytes typed h =
    let f = fine s ps (length dots) cs h in
    let size : size_ok s ≡ true = f.size in
    let same : length (part_images dots ps) ≡ length ps = length-map ps (part_image dots) in
    let few : length (part_images dots ps) ≤ 64 = omega (arith, f.textures) in
    let fewer : length (instructions cs) ≤ 65535 = omega (arith, length_instructions s (length ps) cs f.each_command, f.commands) in
    record {
      some_width = grind (arith, nat_tests);
      width = grind (arith, nat_tests);
      some_height = grind (arith, nat_tests);
      height = grind (arith, nat_tests);
      textures = few;
      each_texture = All-map _ (part_image dots) ps
          (All-weaker _ _ (image_fits dots (All-from_get_or (λ b. b < 256) dots 0 (λ i _. bytes i))) ps f.each_texture);
      commands = fewer;
      each_command = instructions_fit s (part_images dots ps) (length ps) same cs f.each_command typed;
    }

-- the parts of the file, with the lengths of what is given
pub file_parts : (s : Size) (ps : List TexturePart) (dots : List ℕ) (cs : List Command) → refusal s ps (length dots) cs ≡ None →
    file_of s (part_images dots ps) (instructions cs) ≡
    68 ∷ 79 ∷ 84 ∷ 83 ∷ (le 2 s.width ++ (le 2 s.height ++ (length ps ∷ (all image_bytes (part_images dots ps) ++ (le 2 (length cs) ++ all command_bytes (instructions cs))))))
unfolding file_of
file_parts s ps dots cs h =
    rw (length-map ps (part_image dots), length_instructions s (length ps) cs (fine s ps (length dots) cs h).each_command)
