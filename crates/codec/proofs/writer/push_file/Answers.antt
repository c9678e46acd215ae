use Rattle.std.proofs.Common.{ℕ, List, ◌++◌, length, vec_items, sym, ap, ◌∙◌, arith}
use Rattle.std.proofs.lemmas.List.Elements.{All-from_recursion}
use Rattle.codec.proofs.Appending.{behind}
use Rattle.codec.proofs.Fitting.{fine, file_parts}
use Rattle.codec.proofs.writer.push_file.Goals as goal

pub overflow_cast-textures : goal.overflow_cast-textures
overflow_cast-textures c = omega (arith, (fine c.args.size c.args.textures.now (length c.args.dots.now) c.args.commands.now c.requires).textures)

pub push_textures-requires : goal.push_textures-requires
push_textures-requires c = All-from_recursion _ c.args.textures.now (fine c.args.size c.args.textures.now (length c.args.dots.now) c.args.commands.now c.requires).each_texture

pub overflow_cast-commands : goal.overflow_cast-commands
overflow_cast-commands c = omega (arith, (fine c.args.size c.args.textures.now (length c.args.dots.now) c.args.commands.now c.requires).commands)

pub returns : goal.returns
returns c =
    behind (vec_items c.args.out.now) _ _ c.in_ok-extend_from_slice.ensures.items
    (behind (vec_items c.extend_from_slice.new.self) _ _ c.in_ok-push_word.ensures
    (behind (vec_items c.push_word.new.out) _ _ c.in_ok-push_word-2.ensures
    (behind (vec_items c.push_word-2.new.out) _ _ c.in_ok-push.ensures.items
    (behind (vec_items c.push.new.self) _ _ c.in_ok-push_textures.ensures
    (behind (vec_items c.push_textures.new.out) _ _ c.in_ok-push_word-3.ensures c.in_ok-push_commands.ensures)))))
    ∙ ap (λ (l : List ℕ). vec_items c.args.out.now ++ l) (sym (file_parts c.args.size c.args.textures.now c.args.dots.now c.args.commands.now c.requires))
