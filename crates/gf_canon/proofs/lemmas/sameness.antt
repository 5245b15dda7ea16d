pub mod ComparedTrees
pub mod Files
pub mod NodesNamed
pub mod Unnamed
pub mod WalkedNodes
pub mod Worked
