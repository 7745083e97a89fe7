pub mod Drive
pub mod ScriptSteps
